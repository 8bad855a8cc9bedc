use Rattle.std.proofs.Common.{List, map, sym, ap, ◌∙◌, subst}
use Rattle.ac_script.specs.declared.argument.Argument.{Argument}
use Rattle.ac_script.specs.Arguments.{argument_view}
use Rattle.ac_script.specs.Fits.{FitArgs}
use Rattle.ac_script.proofs.Lefts.{next_left, none_left}
use Rattle.ac_script.proofs.build.args.Goals as goal

pub loop-argument-init : goal.loop-argument-init
loop-argument-init c =
    let gives = c.into_iter-argument-iterator.ensures.into_iter_gives in
    let all = ap (map argument_view) gives.0 ∙ c.into_vec-argument-items.ensures in
    record {
      made = rw c.new-items.ensures.items all;
      fits = subst FitArgs (sym all) c.requires;
    }

pub arg-requires : goal.arg-requires
arg-requires c = (subst (λ (left : List Argument). FitArgs (map argument_view left)) c.in-Some.ensures.steps.0 c.loop-argument.invariant.fits).0

pub loop-argument-preserved : goal.loop-argument-preserved
loop-argument-preserved c =
    let steps = c.in-Some.ensures.steps in
    record {
      made = next_left argument_view c.loop-argument.items.items c.push.new.self.items c.loop-argument.argument-iterator.rest.items c.next.new.self.rest.items c.in-Some.argument c.in_ok-arg.field-0 c.args.arguments
          steps.0 c.in_ok-push.ensures.items c.in_ok-arg.ensures c.loop-argument.invariant.made;
      fits = (subst (λ (left : List Argument). FitArgs (map argument_view left)) steps.0 c.loop-argument.invariant.fits).1;
    }

pub returns : goal.returns
returns c = c.from_vec.ensures ∙ none_left argument_view c.loop-argument.items.items c.loop-argument.argument-iterator.rest.items c.args.arguments (sym c.loop-argument.argument-iterator.rest.ok.0 ∙ c.in-None.ensures.steps.0) c.loop-argument.invariant.made
