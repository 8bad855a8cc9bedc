use Rattle.std.proofs.Common.{◌≡◌, ◌≤◌, Bool, true, false, ℕ, length, take, refl, sym, ap, subst, arith, ◌∙◌, None}
use Rattle.std.proofs.lemmas.List.{length-map}
use Rattle.ac_model.specs.Cursors.{plain_mark}
use Rattle.ac_model.specs.Letters.{Mark}
use Rattle.ac_meaning.specs.Environment.{object_in, leaving, with_name}
use Rattle.ac_meaning.specs.Execution.{turn_bound}
use Rattle.ac_objects.specs.Standing.{counts_of}
use Rattle.ac_objects.specs.World.{counted, bound_of, state_of, IsKnown}
use Rattle.ac_objects.proofs.InScope.{counts_turned, turned_state, turned_persists, turned_sound}
use Rattle.ac_objects.proofs.objects.Objects.replace_last.Goals as goal

no_object : (elements : Bool) (object : ℕ) (mark : Mark) → object_in (turn_bound elements object mark) ≡ None
no_object true object mark = refl
no_object false object mark = refl

pub invariant_of-self : goal.invariant_of-self
invariant_of-self c =
    let s = c.self.inside in
    let none = ap object_in c.put_turn.ensures.bound ∙ no_object c.args.elements c.args.object (plain_mark c.args.at) in
    turned_sound c.args.self.now s.bounds.items _ (counted s.mint s.blocks) c.args.last c.put_turn.new.held c.self.view_is refl c.requires.last none
    (subst (IsKnown c.args.self.now) (sym c.put_turn.ensures.cursor) c.requires.known) c.self.invariant

pub returns-clause-named : goal.returns-clause-named
returns-clause-named c =
    let s = c.self.inside in
    let none = ap object_in c.put_turn.ensures.bound ∙ no_object c.args.elements c.args.object (plain_mark c.args.at) in
    turned_state c.args.self.now s.bounds.items _ (counted s.mint s.blocks) c.args.last c.put_turn.new.held c.self.view_is refl c.requires.last none
    ∙ ap (with_name (leaving c.args.last (state_of c.args.self.now))) c.put_turn.ensures.bound

pub returns-clause-persists : goal.returns-clause-persists
returns-clause-persists c =
    let s = c.self.inside in
    let none = ap object_in c.put_turn.ensures.bound ∙ no_object c.args.elements c.args.object (plain_mark c.args.at) in
    turned_persists c.args.self.now s.bounds.items _ (counted s.mint s.blocks) c.args.last c.put_turn.new.held c.self.view_is refl c.requires.last none

pub returns-clause-counts : goal.returns-clause-counts
returns-clause-counts c =
    let s = c.self.inside in
    let last = c.args.last in
    let e = state_of c.args.self.now in
    let bounds = c.args.self.now.bounds in
    let within : last ≤ length bounds = omega (arith, c.requires.last) in
    let none = ap object_in c.put_turn.ensures.bound ∙ no_object c.args.elements c.args.object (plain_mark c.args.at) in
    ap (λ e. take last (counts_of e))
    (turned_state c.args.self.now s.bounds.items _ (counted s.mint s.blocks) last c.put_turn.new.held c.self.view_is refl c.requires.last none)
    ∙ counts_turned last e (bound_of c.put_turn.new.held) (subst (λ n. last ≤ n) (sym (length-map bounds bound_of)) within)
