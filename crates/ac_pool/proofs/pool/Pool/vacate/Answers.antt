use Rattle.std.proofs.Common.{get_or, None, sym, ap, ◌∙◌, subst, vec_capacity}
use Rattle.ac_pool.specs.Contents.{contents, IsLive, IsSound, Vacates}
use Rattle.ac_pool.specs.PoolFields.{name_at, entries_in}
use Rattle.ac_pool.proofs.Cells.{no_serial}
use Rattle.ac_pool.proofs.ContentsLaws.{Vacates-taken, Vacates-empty}
use Rattle.ac_pool.proofs.Entries.{value_in, get-entries_in}
use Rattle.ac_pool.proofs.Pooled.{sound, live_from}
use Rattle.ac_pool.proofs.pool.Pool.vacate.Goals as goal

pub returns-in-Some : goal.returns-in-Some
returns-in-Some g c =
    let a = c.self.inside in let h = c.self.invariant in let name = name_at c.args.slot c.in-Some.serial in let now = c.args.self.now in
    let live : IsLive (contents (entries_in a.slots) a.next_serial a.spare) name = live_from a.slots a.free.items (vec_capacity a.free) a.spare a.next_serial h name (sym c.serial.ensures ∙ c.in-Some.is) in
    let live_now : IsLive now name = subst (λ x. IsLive x name) c.self.view_is live in
    let sound_now : IsSound now = subst (λ x. IsSound x) c.self.view_is (sound a.slots a.free.items (vec_capacity a.free) a.spare a.next_serial h) in
    (subst (λ d. Vacates now d c.args.slot) (sym c.take-value.ensures.taken) (Vacates-taken now name sound_now live_now), c.take-value.ensures.sound)

pub returns-in_default : goal.returns-in_default
returns-in_default g c =
    let a = c.self.inside in let h = c.self.invariant in let none = no_serial (get_or a.slots c.args.slot None) (sym c.serial.ensures ∙ c.in_default.is) in (
      subst (λ x. Vacates x x c.args.slot) c.self.view_is (Vacates-empty (contents (entries_in a.slots) a.next_serial a.spare) c.args.slot (λ q at. get-entries_in a.slots q ∙ ap (λ k. value_in (get_or a.slots k None) q.serial) at ∙ ap (λ o. value_in o q.serial) none)),
      subst (λ x. IsSound x) c.self.view_is (sound a.slots a.free.items (vec_capacity a.free) a.spare a.next_serial h),
    )
