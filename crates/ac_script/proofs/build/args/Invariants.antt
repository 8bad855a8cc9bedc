use Rattle.std.proofs.Common.{◌≡◌, ◌++◌, map}
use Rattle.ac_script.specs.Arguments.{argument_view}
use Rattle.ac_script.specs.Fits.{FitArgs}
use Rattle.ac_script.proofs.build.args.Given as goal

abbrev pub invariant-loop-argument : goal.invariant-loop-argument
invariant-loop-argument l = record {
  made : l.items.items ++ map argument_view l.argument-iterator.rest.items ≡ l.fn.arguments;
  fits : FitArgs (map argument_view l.argument-iterator.rest.items);
}
