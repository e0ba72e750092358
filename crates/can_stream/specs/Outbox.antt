-- The effect of bytes that go through a buffer to a writer.
use Rattle.std.specs.Prelude.{◌≡◌, ℕ, Bool, true, false, List, [], ◌++◌, Option, Result, Ok, Err}
use Rattle.std.specs.Io.KnownBytes.{Appends}
use Rattle.can_stream.specs.declared.fault.TraceFault.{TraceFault}

-- Bytes were appended to the buffer, and the writer took from its front: the writer's bytes followed by those in the buffer
-- grew by what was appended.
pub record PassesOn (held holds : Option (List ℕ)) (old new put : List ℕ) : Type 0 where
  pub taken : List ℕ
  pub appends : Appends held holds taken
  pub same : old ++ put ≡ taken ++ new

-- the writer took a prefix of these bytes, maybe none and maybe all of them
pub record TakesFront (held holds : Option (List ℕ)) (bytes : List ℕ) : Type 0 where
  pub taken : List ℕ
  pub left : List ℕ
  pub appends : Appends held holds taken
  pub split : bytes ≡ taken ++ left

-- All or a part of the pending bytes went to the writer; or the writer failed and took a prefix of them, and none are
-- pending any more.
abbrev pub Flushes : (writer_failed : Bool) → (held holds : Option (List ℕ)) → (old new : List ℕ) → Type 0
Flushes false held holds old new = PassesOn held holds old new []
Flushes true held holds old new = TakesFront held holds old × (new ≡ [])

-- The bytes were appended; or the writer failed, and took a prefix of the pending bytes followed by these.
abbrev pub Puts : {A : Type 0} → Result A TraceFault → (held holds : Option (List ℕ)) → (old new put : List ℕ) → Type 0
Puts (Ok done) held holds old new put = PassesOn held holds old new put
Puts (Err fault) held holds old new put = TakesFront held holds (old ++ put)
