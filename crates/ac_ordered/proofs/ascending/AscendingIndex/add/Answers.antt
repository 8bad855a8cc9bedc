use Rattle.std.proofs.Common.{◌≡◌, ◌+◌, ◌-◌, ◌∷◌, [], Bool, None, Some, sym, ◌∙◌, subst}
use Rattle.std.specs.Prelude.{IfErr, OnOk}
use Rattle.ac_base.specs.Order.{are_level}
use Rattle.ac_model.specs.Keyed.{added, ascending}
use Rattle.ac_setwork.specs.Indexed.{Becomes, found, plain_rows}
use Rattle.ac_ordered.specs.Ascents.{ascent}
use Rattle.ac_ordered.proofs.Ascents.{found_is}
use Rattle.ac_ordered.proofs.Becoming.{added_becomes}
use Rattle.ac_ordered.proofs.ascending.AscendingIndex.add.Goals.{in-Ok, in-Err}
use Rattle.ac_ordered.proofs.ascending.AscendingIndex.add.Goals as goal

pub returns-clause-absent : goal.returns-clause-absent
returns-clause-absent g c =
    let x = c.self.inside.tree in let test : g.row.S-Row.Denot → Bool = λ w. are_level g.S.Ranked.is_less w c.args.row in
    elim c.match-add.branch [
      | in-Ok w ↦ subst (λ r. OnOk r (found test (ascent c.args.self.now) ≡ None)) (sym w.result-is)
          (subst (λ y. found test (ascent y) ≡ None) c.self.view_is (sym (found_is test x.rows) ∙ w.in-Ok.ensures.absent))
      | in-Err w ↦ subst (λ r. OnOk r (found test (ascent c.args.self.now) ≡ None)) (sym w.result-is) tt
    ]

pub returns-clause-added : goal.returns-clause-added
returns-clause-added g c =
    let x = c.self.inside.tree in let less = g.S.Ranked.is_less in
    subst (λ y. OnOk c.match-add.result (Becomes (ascent y) (ascent c.add.new.self) (added (ascending less) (plain_rows (ascent y)) y.next_serial (c.args.row ∷ [])) (y.next_serial + 1) (y.spare - 1))) c.self.view_is
    (elim c.match-add.branch [
      | in-Ok w ↦ subst (λ r. OnOk r (Becomes (ascent x) (ascent c.add.new.self) (added (ascending less) (plain_rows (ascent x)) x.next_serial (c.args.row ∷ [])) (x.next_serial + 1) (x.spare - 1))) (sym w.result-is)
          (added_becomes less x c.add.new.self w.in-Ok.name c.args.row w.in-Ok.ensures.added w.in-Ok.ensures.fresh)
      | in-Err w ↦ subst (λ r. OnOk r (Becomes (ascent x) (ascent c.add.new.self) (added (ascending less) (plain_rows (ascent x)) x.next_serial (c.args.row ∷ [])) (x.next_serial + 1) (x.spare - 1))) (sym w.result-is) tt
    ])

pub returns-clause-present : goal.returns-clause-present
returns-clause-present g c =
    let x = c.self.inside.tree in let test : g.row.S-Row.Denot → Bool = λ w. are_level g.S.Ranked.is_less w c.args.row in
    elim c.match-add.branch [
      | in-Ok w ↦ subst (λ r. IfErr r (λ name. found test (ascent c.args.self.now) ≡ Some name)) (sym w.result-is) tt
      | in-Err w ↦ subst (λ r. IfErr r (λ name. found test (ascent c.args.self.now) ≡ Some name)) (sym w.result-is)
          (subst (λ y. found test (ascent y) ≡ Some w.in-Err.present.at) c.self.view_is (sym (found_is test x.rows) ∙ w.in-Err.ensures.present.there))
    ]
