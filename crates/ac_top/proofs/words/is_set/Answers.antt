use Rattle.std.proofs.Common.{◌∙◌, ap}
use Rattle.clap.specs.Words.{found_of}
use Rattle.clap.proofs.WalkLemmas.{one_text-rows}
use Rattle.ac_top.specs.Words.{is_true}
use Rattle.ac_top.proofs.Asked.{flag_read}
use Rattle.ac_top.proofs.words.is_set.Goals as goal

pub returns : goal.returns
returns c = c.eq.ensures ∙ flag_read _ _ c.get_one.result c.get_one.ensures.none c.get_one.ensures.value ∙ ap is_true (one_text-rows (found_of c.args.matches.now) c.args.flag.now)
