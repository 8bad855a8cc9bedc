use Rattle.std.proofs.Common.{subst, sym}
use Rattle.ac_model.specs.Containers.{Container}
use Rattle.ac_syntax.specs.declared.operation.KeyedCall.TheVariants.{Key, KeyReplace}
use Rattle.ac_calls.specs.Elements.{Text}
use Rattle.ac_calls.specs.KeyedReplies.{of_ordered}
use Rattle.ac_calls.specs.Replied.{told}
use Rattle.ac_keyed_calls.specs.KeyCalls.{KeyRepliedBy}
use Rattle.ac_keyed_calls.proofs.key_calls.ordered_key_call.Goals as goal

pub returns-in-Key : goal.returns-in-Key
returns-in-Key g c =
    let made = told c.key.new.reply c.key.result in
    subst (λ call. KeyRepliedBy g.I.Keyed.key_of g.I.Keyed.keys of_ordered call c.args.args.now c.args.set.now c.args.set.now made) (sym c.in-Key.is)
    (subst (λ (x : Container Text). KeyRepliedBy g.I.Keyed.key_of g.I.Keyed.keys of_ordered Key c.args.args.now x x made) c.set.view_is c.key.ensures)

pub returns-in-KeyReplace : goal.returns-in-KeyReplace
returns-in-KeyReplace g c =
    let made = told c.key_replace.new.reply c.key_replace.result in
    subst (λ call. KeyRepliedBy g.I.Keyed.key_of g.I.Keyed.keys of_ordered call c.args.args.now c.args.set.now c.key_replace.new.set made) (sym c.in-KeyReplace.is)
    (subst (λ (x : Container Text). KeyRepliedBy g.I.Keyed.key_of g.I.Keyed.keys of_ordered KeyReplace c.args.args.now x c.key_replace.new.set made) c.set.view_is c.key_replace.ensures)
