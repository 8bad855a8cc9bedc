-- When two queues are one.
use Rattle.std.proofs.Common.{◌≡◌, ℕ, ℤ, Bool, List, refl, ap}
use Rattle.std.specs.Bool.{Decides}
use Rattle.std.specs.Ordering.{int_eq}
use Rattle.std.specs.Cmp.Lexicographic.{pointwise}
use Rattle.std.proofs.lemmas.Bool.Decides.{Decides-int_eq}
use Rattle.std.proofs.lemmas.Slice.Eq.{slice_eq-Decides}
use Rattle.ac_base.specs.declared.limit.Limit.{Limit}
use Rattle.ac_model.specs.Queues.{Queue}
use Rattle.ac_queue.specs.QueueStates.{queue_of}

-- the items decide, where limits and peaks are the same
pub items_decide : (limit limit' : Limit) (items items' : List ℤ) (peak peak' : ℕ) (r : Bool) → limit ≡ limit' → peak ≡ peak' → r ≡ pointwise int_eq items items'
    → Decides r (queue_of limit items peak ≡ queue_of limit' items' peak')
items_decide limit limit' items items' peak peak' r limits peaks tested =
    let decides = slice_eq-Decides Decides-int_eq items items' r tested in
    (λ yes. rw (limits, peaks, decides.0 yes) refl, λ same. decides.1 (ap (λ (q : Queue). q.items) same))
