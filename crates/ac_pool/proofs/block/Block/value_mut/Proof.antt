-- `value_mut` lends the value out of the open borrow of the block. Assumes `Logic`.
use mathlib.Core.Path.{◌≡◌, refl, sym, ap, ◌∙◌}
use Prim.Native.Nat.{ℕ, ◌+◌, ◌*◌, ◌<◌, ◌^◌}
use mathlib.Core.List.{List, [], ◌∷◌}
use lib.ListN.{length, get_or, set}
use seplogic.Ra.Ura.{Ura}
use base.Fraction.{full_share}
use base.Logic.{SProp, ent, sep, id⊢}
use base.Fml.{GName, ftrue, fsep, flft}
use contract.BorrowLft.{◌⊑◌}
use contract.Monad.{fact}
use contract.Running.{tables}
use mir.Syntax.{Fn, w64, named}
use mir.MapTy.{inst_fn}
use mir.Val.{Val, vptr, vstruct, vcons, vnil}
use types.Logic.{Logic, sem}
use types.Kit.{‵, raw, ◌⊛◌, some, later, at_ret, ◌$◌, ◌∵◌, !, qed, done, move, keep, drop, use1, use2, split, split3, join, group, frame, pick, await, suffices, fsplit, fsplit3, fjoin, fpack, feq_i, feq_l, flt_i, flt_l, rewrite}
use types.Part.{whole, sub, look_in}
use types.Run.{load, stop, fld, of_opd, addr, bin, size_lit, first, blocks, exec, returns, enter}
use types.ByLocal.{alloc_all, pass_all, free_all, look_at, get, through, sets, sets_last, env}
use denote.Builtin.{usize, u64}
use denote.RattleType.{RattleType}
use denote.Exit.{yes, no}
use denote.Follow.{Part, lends_Part, follows}
use denote.Laws.{Is, shows}
use denote.Memory.{mem, cell_at, part_at, part_of}
use denote.Param.Laws.{param_laws}
use denote.Plain.{uint_vals, uint_Tells}
use denote.RawPtr.{Ptr, block_ptr, ptr_val, in_a_block}
use denote.Ref.{MutBor, MutRef, mut_vals, mut_Tells}
use denote.Signature.{plain, mut_ref_to}
use denote.Steps.{heard, nothing, opens, peeks}
use denote.Triple.Walked.{Stays, stay_dropped, walk_of, ends_at, says, Goes-dropped, Goes-spent_ref}
use Rattle.std.proofs.VecSteps.Shapes.{after}
use Rattle.std.proofs.raw_atomic.Walks.{proved}
use Rattle.std.specs.Prelude.{Option, Some, None}
use Rattle.ac_pool.specs.Places.{serial_of_place, value_of_place, serial_at_place, HoldsValue}
use Rattle.ac_pool.specs.BlockLends.{with_cells}
use Rattle.ac_pool.specs.Memory.{way_back, cell_own, cells_own, right, block_own}
use Rattle.ac_pool.specs.contracts.block.Block.value_mut as f
use Rattle.ac_pool.specs.contracts.block.Block.value_mut.Key.{name as #self}
use Rattle.ac_pool.proofs.RawCells.{args, R, Bk, Fields, Lies, step, ahead, is_word, is_near, still_long}
use Rattle.ac_pool.proofs.Cells.{within}
use Rattle.ac_pool.proofs.Rows.{gap, lift, fill}
use native.Mathlib.Omega.{arith}
use Rattle.ac_pool.proofs.block.Block.TheLaws.{lowers}
use Rattle.ac_pool.proofs.block.Block.value_mut.Statement.{statement}
use Rattle.ac_pool.proofs.block.Block.value_mut.Code as code

module _ (X : RattleType) where
  abbrev function : Fn
  function = inst_fn (args X) code.function

  abbrev stayed : Stays (f.ended X).signature.params (f.ended X).kept
  stayed = (stay_dropped (mut_ref_to (0 ∷ []) tt (plain (λ _. Bk X))) no, (stay_dropped (plain (λ _. usize)) yes, tt))

module _ (X : RattleType) {M : Type 1} {𝓤 : Ura M} (𝓛 : Logic 𝓤) (rb ro : ℕ) (d : (Bk X).Denot) (i b o : ℕ) (vs : List Val) where
  open 𝓛 use {H}

  abbrev spot : ℕ
  spot = i * step X + o

  abbrev value_spot : ℕ
  value_spot = spot + ahead X

  -- the block, once w is written
  abbrev written : X.Denot → (Bk X).Denot
  written w = with_cells d (set d.cells i (Some (serial_at_place d.cells i, Some w)))

  -- all but the value
  abbrev Rest : SProp 𝓤
  Rest = sep 𝓤 (sem 𝓛 (part_at u64 full_share (serial_at_place d.cells i) b (spot + 0))) (sep 𝓤 (sem 𝓛 (way_back (R X) b spot)) (sep 𝓤 (sem 𝓛 (gap d.cells (Lies X b o) i))
      (sep 𝓤 (sem 𝓛 (right (R X) (block_ptr b o))) (sep 𝓤 (sem 𝓛 ((Fields X).own_val (d.first, tt) vs)) (sem 𝓛 (cell_at full_share (Bk X).mir vs rb ro))))))

  way : d.first ≡ block_ptr b o → length d.cells ≡ 512 → 512 * step X < 2 ^ 63 → (w : X.Denot) → ent 𝓤 (sep 𝓤 (sem 𝓛 ((mem (R X)).own_at w b value_spot)) Rest) (sem 𝓛 ((mem (Bk X)).own_at (written w) rb ro))
  unfolding part_of
  way e long small w =
      let n = serial_at_place d.cells i in let c : Option (ℕ × Option X.Denot) = Some (n, Some w) in
      qed 𝓛 (‵ (part_at (R X) full_share w b value_spot) ∷ (‵ (part_at u64 full_share n b (spot + 0)) ⊛ ‵ (way_back (R X) b spot) ⊛ ‵ (gap d.cells (Lies X b o) i) ⊛ ‵ (right (R X) (block_ptr b o))
      ⊛ ‵ ((Fields X).own_val (d.first, tt) vs) ⊛ ‵ (cell_at full_share (Bk X).mir vs rb ro)) ∷ []) ∵
      move ! (1 ∷ []) $ split3 ! $ move ! (3 ∷ 1 ∷ []) $ fjoin ! $ move ! (1 ∷ 0 ∷ []) $ fjoin ! $ move ! (1 ∷ []) $ split3 ! $ move ! (3 ∷ 0 ∷ []) $
      use2 𝓛 (‵ (cells_own (R X) b o (written w).cells)) (fill 𝓛 d.cells (Lies X b o) i c) $ fjoin ! $
      flt_i ! (512 * step X) (2 ^ 63) small $ feq_i ! ℕ (length (written w).cells) 512 (still_long d.cells i c long) $ fjoin ! $ fjoin ! $
      rewrite ! 0 (λ (p : Ptr). ‵ (block_own (R X) p (written w).cells)) (sym e) refl $ move ! (1 ∷ []) $ split ! $ move ! (0 ∷ 2 ∷ []) $ fjoin ! $ move ! (1 ∷ 0 ∷ []) $ fjoin ! $
      fpack ! (List Val) (λ us. fsep (cell_at full_share (Bk X).mir us rb ro) ((Bk X).own_val (written w) us)) vs $ done !

pub value_mut_spec : {M : Type 1} → statement M
value_mut_spec 𝓤 𝓛 𝓜 𝓡 wired X LX =
    let c = f.clauses X 𝓛 𝓜.mem 𝓡.returns in let T = f.ended X in
    let W = walk_of 𝓛 T (stayed X) c in let 𝓣 = tables 𝓤 𝓛.H 𝓜 𝓡 𝓡.env in
    proved 𝓛 T (stayed X) c 𝓜 𝓡
    (Goes-spent_ref 𝓛 2 (0 ∷ []) tt (plain (λ _. Bk X)), (Goes-dropped 𝓛 2 (plain (λ _. usize)) yes (λ κs x w. refl), tt))
    (#self (args X)) (function X) (code.unfolded 𝓤 𝓛.H 𝓜 𝓡 wired (X, tt))
    (λ κs. (mut_vals, (uint_vals w64, tt))) (λ κs. (mut_Tells (named 0) κs.0 (Bk X), (uint_Tells w64, tt))) (λ κs qs bounds a _ are.
    let κ = κs.0 in let κ' = κs.1.0 in let q = qs.0 in let q' = qs.1.0 in let rb = a.0.ref_ptr.0 in let ro = a.0.ref_ptr.1 in let d = a.0.now in let i = a.1.0 in let cs = d.cells in
    let Asked : Type 0 = HoldsValue cs i in let fits_i : i < 2 ^ 64 = are.1.0.1 in
    let y : W.Ghost = ((κs, qs, bounds, a, (mut_vals a.0, (uint_vals w64 i, tt))), tt) in
    qed 𝓛 (((‵ (flft κ q) ⊛ ‵ (flft κ' q') ⊛ ‵ ftrue) ⊛ ‵ ((MutRef (named 0) κ (Bk X)).own_val a.0 (mut_vals a.0)) ⊛ ‵ (usize.own_val i (uint_vals w64 i)) ⊛ ‵ ftrue) ∷ (raw (fact 𝓤 (κ' ⊑ X.lives)) ⊛ raw (fact 𝓤 Asked)) ∷ []) ∵
    move ! (1 ∷ []) $ split ! $ drop ! $ heard ! Asked (λ asked. split ! $ split ! $ move ! (1 ∷ []) $ split ! $ move ! (3 ∷ []) $ split ! $ fsplit3 ! $ keep ! (1 ∷ 2 ∷ 6 ∷ 4 ∷ []) $
    let x = asked.0.1 in let n = serial_at_place cs i in let stands = asked.1 ∙ ap (λ (m : ℕ). Some (m, Some x)) (sym (ap serial_of_place asked.1)) in
    enter ! _ _ _ _ _ $ alloc_all ! (λ l. pass_all ! refl ((tt, tt), ((tt, record { fits = fits_i }), tt)) $
    let En = env (function X).locals l in let s = step X in
    opens ! tt (Bk X) {h = d} rb ro (λ vs. move ! (1 ∷ []) $ peeks ! (Bk X) (Is (Bk X)) (shows 𝓛 (Bk X)) d vs (λ is. fsplit ! $ move ! (1 ∷ []) $
    in_a_block ! d.first (λ p. block_own (R X) p cs) (id⊢ 𝓤 _) (λ b o e. fsplit ! $ fsplit ! $ feq_l ! (λ long. flt_l ! (λ small. fsplit ! $
    let at = i * s + o in let tiny : s < 2 ^ 64 = is_word s small in let there : i < length cs = within cs i (asked.0.0, Some asked.0.1) asked.1 in let far : i * s < 2 ^ 64 = is_near i s (omega (arith, there, long)) small in
    let Word = λ (ws : List Val). ‵ (cell_at full_share (Bk X).mir ws rb ro) in
    let word = (lowers (R X) (param_laws 0 X LX)).val_is d vs is ∙ ap (λ (p : Ptr). vstruct (vcons (ptr_val p) vnil) ∷ []) e in
    rewrite ! 3 Word word refl $ use1 𝓛 (‵ (cell_own (R X) b at (get_or cs i None)) ⊛ ‵ (gap cs (Lies X b o) i)) (lift 𝓛 cs (Lies X b o) i None there) $ split ! $
    -- [the cell; the others; the right to the block; the fields; where they lie; the open borrow, in three entries; the rest]
    first ! $ blocks ! $ sets ! (of_opd ! (load ! (through ! refl (fld ! refl (stop !))) (look_in ! 4 (sub ! 0 refl (whole !))))) refl (tt, tt) $
    sets ! (bin ! (get ! refl) (size_lit ! (record { fits = tiny })) (record { fits = far })) refl (tt, record { fits = far }) $ sets ! (bin ! (get ! refl) (get ! refl) tt) refl (tt, tt) $
    let γ = a.0.ghost_name in let x_at = at + ahead X in let code = (Bk X).coded.code d in let Left = Rest X 𝓛 rb ro d i b o vs in let back = way X 𝓛 rb ro d i b o vs e long small in
    rewrite ! 0 (λ (w : Option (ℕ × Option X.Denot)). ‵ (cell_own (R X) b at w)) stands refl $ fsplit3 ! $
    -- [the serial; the value; the way back; the others; the right to the block; the fields; where they lie; the open borrow, in three entries; the other token]
    sets_last ! (addr ! (through ! refl (fld ! refl (stop !)))) refl (tt, tt) $ exec ! 𝓣.C 𝓣.Λ En (after 1 (function X).body) (at_ret En (W.post y)) $ sets ! (of_opd ! (get ! refl)) refl (tt, tt) $
    rewrite ! 6 Word (sym word) refl $ move ! (0 ∷ 2 ∷ 3 ∷ 4 ∷ 5 ∷ 6 ∷ []) $ group ! 6 $ move ! (2 ∷ 3 ∷ 4 ∷ 1 ∷ 0 ∷ []) $ group ! 5 $
    use1 𝓛 (later (some (λ (δ : GName). raw (Part 𝓛 (Bk X) (R X) (written X 𝓛 rb ro d i b o vs) (named 0) κ q rb ro b x_at γ Left back x δ))))
    (lends_Part 𝓛 (Bk X) (R X) (written X 𝓛 rb ro d i b o vs) (named 0) κ q rb ro b x_at γ Left back code code x) $ await ! tt $ pick ! (λ δ.
    let r : MutBor X.Denot = record { ref_ptr = (b, x_at); ghost_name = δ; now = x } in
    returns ! (look_at ! 0 refl) $ free_all ! refl $
    use1 𝓛 (‵ ((MutRef (named 0) κ (R X)).own_val r (vptr b x_at ∷ [])) ⊛ ‵ (flft κ q) ⊛ ‵ (follows (Bk X) (R X) γ δ (written X 𝓛 rb ro d i b o vs))) (id⊢ 𝓤 _) $ split3 ! $
    suffices ! _ (ends_at 𝓛 T (stayed X) c y (vptr b x_at) r (tt, (tt, tt)) (tt, (tt, tt))) $
    nothing ! $ nothing ! $ fjoin ! $ nothing ! $ fjoin ! $ join ! $ nothing ! $ move ! (2 ∷ 4 ∷ 0 ∷ []) $ group ! 3 $ join ! $ frame ! $ says ! (ap value_of_place asked.1) $ done !)))))))))
