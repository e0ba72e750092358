use Rattle.std.proofs.Common.{◌≡◌, Some, arith, length, refl, subst, sym, rules}
use Rattle.std.specs.List.{slice_get}
use Rattle.std.proofs.lemmas.Option.{slice_get_read}
use Rattle.toml.specs.Data.{Data, string, table}
use Rattle.toml.specs.View.{table_view, view}
use Rattle.document_values.specs.Values.{elements_in, named}
use Rattle.canhold_commands.proofs.TablesByNumber.{seen-at}
use Rattle.canhold_commands.proofs.naming.name_in.Goals as goal

pub returns : goal.returns
returns c =
    let values = c.in_ok-tables.tables.now in
    let value = c.in_ok-get.field-0.now in
    let part = c.args.part.now in
    let name = c.in_ok-name.name.now in
    let at : slice_get values c.args.number ≡ Some value = slice_get_read values (length values) c.args.number value refl c.in_ok-get.ensures.lookup.3.0 (c.in_ok-get.ensures.lookup.4 (omega arith) value) in
    let here : named part (table (table_view c.in_ok-one.one.now)) ≡ Some (string name) = search rules in
    record {
      one = view value;
      is = seen-at view values (elements_in (named c.args.list.now (table (table_view c.args.fields.now)))) c.args.number value c.in_ok-tables.ensures.said at;
      said = subst (λ (d : Data). named part d ≡ Some (string name)) (sym c.in_ok-one.ensures.said) here;
      word = search rules;
    }
