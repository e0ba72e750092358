-- The plain fields for what a port does in a bit time, and for what is wrong in a scenario or a network.
use Rattle.std.specs.Prelude.{ℕ, List, map}
use Rattle.can_terms.specs.Codes.{code_of_kind, phase_code}
use Rattle.can_plan_text.specs.declared.field.MessageField.{MessageField}
use Rattle.can_plan_text.specs.declared.field.MessageField.TheVariants as of_message
use Rattle.can_plan_text.specs.declared.field.PlanField.{PlanField}
use Rattle.can_plan_text.specs.declared.field.PlanField.TheVariants as plan
use Rattle.can_trace.specs.declared.port_times.PortTime.{PortTime}
use Rattle.can_stream.specs.declared.field.Field.{Field}
use Rattle.can_stream.specs.declared.field.Field.TheVariants as field
use Rattle.can_stream.specs.declared.field.HitList.{HitList}
use Rattle.can_stream.specs.declared.field.HitList.TheVariants as list
use Rattle.can_stream.specs.declared.field.PortField.{PortField}
use Rattle.can_stream.specs.declared.field.PortField.TheVariants as part
use Rattle.std.specs.Int.{from_bool}
use Rattle.can_frame.specs.Levels.{level_code}
use Rattle.can_page.specs.declared.plain.PlainTime.{PlainTime}
use Rattle.can_page.specs.declared.plain.WrongField.{WrongField}

-- ---- a port in a bit time

-- the plain fields of a bit time of a port
abbrev pub plain_time : PortTime → PlainTime
plain_time time = record {
  transmit = time.transmit;
  receive = time.receive;
  phase = phase_code time.phase;
  sends = from_bool time.sends;
  drove = level_code time.drove;
  saw = level_code time.saw;
  event = code_of_kind time.event;
}

-- the plain fields of bit times
abbrev pub plain_times : List PortTime → List PlainTime
plain_times times = map plain_time times

-- ---- what is wrong in a scenario

-- the number of a field; the number of the port or message, or the place in a list; and the element of the port's queue
abbrev pub wrong_at : ℕ → ℕ → ℕ → WrongField
wrong_at code number element = record { field = code; number = number; element = element }

-- a field of the port with this number
abbrev pub wrong_in_port : ℕ → PortField → WrongField
wrong_in_port number part.Table = wrong_at 5 number 0
wrong_in_port number part.Unknown = wrong_at 6 number 0
wrong_in_port number part.Queue = wrong_at 7 number 0
wrong_in_port number (part.Frame element) = wrong_at 8 number element
wrong_in_port number part.Log = wrong_at 9 number 0
wrong_in_port number part.Join = wrong_at 10 number 0
wrong_in_port number part.Hold = wrong_at 11 number 0

-- a list of injected bit errors
abbrev pub wrong_list : HitList → WrongField
wrong_list list.At = wrong_at 12 0 0
wrong_list list.In = wrong_at 13 0 0
wrong_list list.View = wrong_at 14 0 0

-- an element of such a list
abbrev pub wrong_hit : HitList → ℕ → WrongField
wrong_hit list.At place = wrong_at 15 place 0
wrong_hit list.In place = wrong_at 16 place 0
wrong_hit list.View place = wrong_at 17 place 0

-- a field of a scenario
abbrev pub wrong_field : Field → WrongField
wrong_field field.Document = wrong_at 0 0 0
wrong_field field.Unknown = wrong_at 1 0 0
wrong_field field.Version = wrong_at 2 0 0
wrong_field field.Bits = wrong_at 3 0 0
wrong_field field.Ports = wrong_at 4 0 0
wrong_field (field.Port number p) = wrong_in_port number p
wrong_field (field.Hits hits) = wrong_list hits
wrong_field (field.Hit hits place) = wrong_hit hits place

-- ---- what is wrong in a network

-- a field of the message at this place
abbrev pub wrong_in_message : ℕ → MessageField → WrongField
wrong_in_message place of_message.Table = wrong_at 9 place 0
wrong_in_message place of_message.Unknown = wrong_at 10 place 0
wrong_in_message place of_message.Frame = wrong_at 11 place 0
wrong_in_message place of_message.Dlc = wrong_at 12 place 0
wrong_in_message place of_message.Period = wrong_at 13 place 0
wrong_in_message place of_message.Jitter = wrong_at 14 place 0
wrong_in_message place of_message.Deadline = wrong_at 15 place 0
wrong_in_message place of_message.Repeated = wrong_at 16 place 0
wrong_in_message place of_message.Name = wrong_at 17 place 0
wrong_in_message place of_message.RepeatedName = wrong_at 18 place 0

-- a field of a network
abbrev pub wrong_in_plan : PlanField → WrongField
wrong_in_plan plan.Document = wrong_at 0 0 0
wrong_in_plan plan.Unknown = wrong_at 1 0 0
wrong_in_plan plan.Version = wrong_at 2 0 0
wrong_in_plan plan.Rate = wrong_at 3 0 0
wrong_in_plan plan.Errors = wrong_at 4 0 0
wrong_in_plan plan.UnknownError = wrong_at 5 0 0
wrong_in_plan plan.Burst = wrong_at 6 0 0
wrong_in_plan plan.Spacing = wrong_at 7 0 0
wrong_in_plan plan.Messages = wrong_at 8 0 0
wrong_in_plan (plan.Message place part) = wrong_in_message place part
