-- What is told of a block of tasks: nothing where it doesn't begin, and else its order.
use Rattle.std.proofs.Common.{◌≡◌, ◌+◌, ℕ, Bool, true, false, List, [], ◌∷◌, refl, subst, Option, None, Result, Ok, OnOk, IsErrAnd, if◌then◌else◌}
use Rattle.std.proofs.lemmas.List.Elements.{All-nil, All-cons}
use Rattle.ac_rules.specs.Resolved.{ResolvedCode}
use Rattle.ac_calls.specs.Answers.{lines_text}
use Rattle.ac_meaning.specs.Environment.{State}
use Rattle.ac_meaning.specs.Execution.{End, Orders, outcome, run_by, gathered}
use Rattle.ac_meaning.specs.TaskBlocks.{block_of, block_fits}
use Rattle.ac_calls.specs.Holdings.{Guards}
use Rattle.ac_objects.specs.World.{World, state_of}
use Rattle.ac_host.specs.declared.end.HostEnd.{HostEnd}
use Rattle.ac_host.specs.declared.end.HostEnd.TheVariants.{NoMemory}
use Rattle.ac_host.specs.Ready.{IsUnder}
use Rattle.ac_host.specs.Running.{Runs, RunsByOrders}
use Rattle.ac_host.specs.Told.{GoBy}
use Rattle.ac_host.specs.Writing.{Ran}
use Rattle.ac_host.proofs.Blocks.{ran_broke}
use Rattle.ac_host.proofs.ByOrders.{on_exit, tells_none}
use Rattle.ac_host.proofs.Telling.{broke_nothing, wrote_nothing}

abbrev normal : End
normal = None

-- tasks raise nothing
pub tasks_end : (order : List ℕ) (tasks : ResolvedCode) (e : State) → normal ≡ (gathered order tasks e).end
tasks_end order tasks e = go (block_fits (block_of e tasks))
  where
    go : (fits : Bool) → normal ≡ (if fits then run_by order tasks e else outcome [] e).end
    go true = refl
    go false = refl

module _ {K : Type 0} (held : K → Option (List ℕ)) (faults : K → ℕ) (room : K → Option ℕ) (counts : K → Bool) {allows : List ℕ → Type 0} (tasks : ResolvedCode) where
  -- without memory nothing was written
  pub nothing_run : {old now : World} (a : K) (result : Result End HostEnd) → IsErrAnd result (λ y. y ≡ NoMemory) →
      RunsByOrders allows held faults room counts a a old now (λ orders guards e. gathered (orders e.blocks) tasks e) result
  nothing_run {now = now} a result exit =
      tells_none (on_exit _ _ result exit) (λ orders guards e u.
      let r = gathered (orders e.blocks) tasks e in
      ran_broke held faults room counts a a (state_of now) guards r NoMemory result exit (broke_nothing held faults room counts a (lines_text r.lines)))

  -- and of a block whose numbers don't fit no line is written
  pub none_run : {old : World} (a : K) →
      ((order : List ℕ) (guards : Guards) (e : State) → IsUnder old guards e → outcome [] e ≡ gathered order tasks e) →
      RunsByOrders allows held faults room counts a a old old (λ orders guards e. gathered (orders e.blocks) tasks e) (Ok None)
  none_run {old = old} a same =
      tells_none refl (λ orders guards e u.
      subst (λ r. Ran held faults room counts a a old guards r (Ok None)) (same (orders e.blocks) guards e u)
      (record { writes = wrote_nothing held faults room counts a; after = u.is; ended = refl }))

  pub told_one : {old now : World} {a b : K} {result : Result End HostEnd} (order : List ℕ) → allows order →
      OnOk result (now.counters.blocks ≡ old.counters.blocks + 1) →
      ((orders : Orders) → GoBy (order ∷ []) old.counters.blocks orders →
      Runs held faults room counts a b old now (λ guards e. gathered (orders e.blocks) tasks e) result) →
      RunsByOrders allows held faults room counts a b old now (λ orders guards e. gathered (orders e.blocks) tasks e) result
  told_one order allowed counted runs = record {
    told = order ∷ [];
    allowed = All-cons allows order [] allowed (All-nil allows);
    counted = counted;
    holds = runs;
  }
