use Rattle.std.proofs.Common.{length, sym, ap, ◌∙◌}
use Rattle.ac_calls.specs.Elements.{tools_of}
use Rattle.ac_snapshot.proofs.value_test.size_of.Goals as goal

pub returns-in-Integer : goal.returns-in-Integer
returns-in-Integer c = ap (λ e. (tools_of e).size ((tools_of e).from_value c.args.value.now)) (sym c.in-Integer.is)

pub returns-in-Str : goal.returns-in-Str
returns-in-Str c = ap length c.text_in.ensures ∙ ap (λ e. (tools_of e).size ((tools_of e).from_value c.args.value.now)) (sym c.in-Str.is)
