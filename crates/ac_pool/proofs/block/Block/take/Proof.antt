-- `take` reads the value, and writes 0 in the place of its serial. Assumes `Logic`.
use mathlib.Core.Path.{refl, sym, ap, ◌∙◌}
use Prim.Native.Nat.{ℕ, ◌+◌, ◌*◌, ◌<◌, ◌^◌}
use mathlib.Core.List.{List, [], ◌∷◌}
use lib.Dec.{lit<}
use lib.ListN.{length, get_or, set}
use base.Fraction.{full_share}
use base.Logic.{emp, id⊢}
use base.Fml.{ftrue, fat, froom, flft}
use contract.BorrowLft.{◌⊑◌}
use contract.Monad.{fact, fact_i}
use contract.Running.{tables}
use mir.Syntax.{Fn, w64, ty_int, named}
use mir.Raw.{raw as bare}
use mir.MapTy.{inst_fn}
use mir.Val.{Val, vint, vptr, vstruct, vcons, vnil}
use types.Kit.{‵, raw, ◌⊛◌, some, at_ret, ◌$◌, ◌∵◌, !, qed, done, move, keep, drop, use1, use2, split, group, pick, use0, frame, suffices, fsplit, fsplit3, fjoin, fjoin3, feq_i, feq_l, flt_i, flt_l, rewrite}
use types.Part.{whole, sub, look_in}
use types.Run.{look, load, store, lit, stop, fld, of_opd, addr, bin, size_lit, assigns, first, blocks, exec, returns, enter, well_typed}
use types.ByLocal.{alloc_all, pass_all, free_all, look_at, get, through, sets, sets_last, env}
use denote.Builtin.{usize, u64}
use denote.RattleType.{RattleType}
use denote.Exit.{yes}
use denote.Laws.{Is, shows}
use denote.Memory.{cell_at, part_at}
use denote.Param.Laws.{param_laws}
use denote.Plain.{uint_vals, uint_Tells, uint_in, uint_out}
use denote.RawPtr.{Ptr, ptr_val, in_a_block}
use denote.Ref.{MutRef, mut_vals, mut_Tells}
use denote.Signature.{plain}
use denote.Steps.{heard, nothing, opens, closes, peeks}
use denote.Triple.Walked.{Stays, stay_dropped, stay_ref, walk_of, ends_at, says, Goes-dropped, Goes-ref}
use Rattle.std.proofs.VecSteps.Shapes.{after}
use Rattle.std.proofs.raw_atomic.Walks.{proved}
use Rattle.std.specs.Prelude.{Option, Some, None}
use Rattle.ac_pool.specs.Places.{value_of_place, HoldsValue, Holds}
use Rattle.ac_pool.specs.BlockLends.{with_cells}
use Rattle.ac_pool.specs.Memory.{cell_own, cells_own, block_own}
use Rattle.ac_pool.specs.contracts.block.Block.take as f
use Rattle.ac_pool.specs.contracts.block.Block.take.Key.{name as #self}
use Rattle.ac_pool.proofs.RawCells.{args, R, Bk, Lies, value_ty, step, ahead, is_word, is_near, still_long}
use Rattle.ac_pool.proofs.Cells.{within}
use Rattle.ac_pool.proofs.Rows.{gap, lift, fill}
use borrow.Table.OneValue.{part_out}
use native.Mathlib.Omega.{arith}
use Rattle.ac_pool.proofs.block.Block.TheLaws.{lowers}
use Rattle.ac_pool.proofs.block.Block.take.Statement.{statement}
use Rattle.ac_pool.proofs.block.Block.take.Code as code

module _ (X : RattleType) where
  abbrev function : Fn
  function = inst_fn (args X) code.function

  abbrev stayed : Stays (f.ended X).signature.params (f.ended X).kept
  stayed = (stay_ref (0 ∷ []) tt (plain (λ _. Bk X)), (stay_dropped (plain (λ _. usize)) yes, tt))

pub take_spec : {M : Type 1} → statement M
take_spec 𝓤 𝓛 𝓜 𝓡 wired X LX =
    let c = f.clauses X 𝓛 𝓜.mem 𝓡.returns in let T = f.ended X in
    let W = walk_of 𝓛 T (stayed X) c in let 𝓣 = tables 𝓤 𝓛.H 𝓜 𝓡 𝓡.env in
    proved 𝓛 T (stayed X) c 𝓜 𝓡
    (Goes-ref 𝓛 2 0 tt (plain (λ _. Bk X)), (Goes-dropped 𝓛 2 (plain (λ _. usize)) yes (λ κs x w. refl), tt))
    (#self (args X)) (function X) (code.unfolded 𝓤 𝓛.H 𝓜 𝓡 wired (X, tt))
    (λ κs. (mut_vals, (uint_vals w64, tt))) (λ κs. (mut_Tells (named 0) κs.0 (Bk X), (uint_Tells w64, tt))) (λ κs qs bounds a _ are.
    let κ = κs.0 in let κ' = κs.1.0 in let q = qs.0 in let q' = qs.1.0 in let rb = a.0.ref_ptr.0 in let ro = a.0.ref_ptr.1 in let d = a.0.now in let i = a.1.0 in let cs = d.cells in
    let Asked : Type 0 = HoldsValue cs i in let fits_i : i < 2 ^ 64 = are.1.0.1 in
    let y : W.Ghost = ((κs, qs, bounds, a, (mut_vals a.0, (uint_vals w64 i, tt))), tt) in
    qed 𝓛 (((‵ (flft κ q) ⊛ ‵ (flft κ' q') ⊛ ‵ ftrue) ⊛ ‵ ((MutRef (named 0) κ (Bk X)).own_val a.0 (mut_vals a.0)) ⊛ ‵ (usize.own_val i (uint_vals w64 i)) ⊛ ‵ ftrue) ∷ (raw (fact 𝓤 (κ' ⊑ X.lives)) ⊛ raw (fact 𝓤 Asked)) ∷ []) ∵
    move ! (1 ∷ []) $ split ! $ drop ! $ heard ! Asked (λ asked. split ! $ split ! $ move ! (1 ∷ []) $ split ! $ move ! (3 ∷ []) $ split ! $ fsplit3 ! $ keep ! (1 ∷ 2 ∷ 6 ∷ 4 ∷ []) $
    let x = asked.0.1 in let n = asked.0.0 in
    enter ! _ _ _ _ _ $ alloc_all ! (λ l. pass_all ! refl ((tt, tt), ((tt, record { fits = fits_i }), tt)) $
    let En = env (function X).locals l in let s = step X in
    opens ! tt (Bk X) {h = d} rb ro (λ vs. move ! (1 ∷ []) $ peeks ! (Bk X) (Is (Bk X)) (shows 𝓛 (Bk X)) d vs (λ is. fsplit ! $ move ! (1 ∷ []) $
    in_a_block ! d.first (λ p. block_own (R X) p cs) (id⊢ 𝓤 _) (λ b o e. fsplit ! $ fsplit ! $ feq_l ! (λ long. flt_l ! (λ small. fsplit ! $
    let at = i * s + o in let tiny : s < 2 ^ 64 = is_word s small in let there : i < length cs = within cs i (asked.0.0, Some asked.0.1) asked.1 in let far : i * s < 2 ^ 64 = is_near i s (omega (arith, there, long)) small in
    let Word = λ (ws : List Val). ‵ (cell_at full_share (Bk X).mir ws rb ro) in
    let word = (lowers (R X) (param_laws 0 X LX)).val_is d vs is ∙ ap (λ (p : Ptr). vstruct (vcons (ptr_val p) vnil) ∷ []) e in
    rewrite ! 3 Word word refl $ use1 𝓛 (‵ (cell_own (R X) b at (get_or cs i None)) ⊛ ‵ (gap cs (Lies X b o) i)) (lift 𝓛 cs (Lies X b o) i None there) $ split ! $
    -- [the cell; the others; the right to the block; the fields; where they lie; the open borrow, in three entries; the rest]
    first ! $ blocks ! $ sets ! (of_opd ! (load ! (through ! refl (fld ! refl (stop !))) (look_in ! 4 (sub ! 0 refl (whole !))))) refl (tt, tt) $
    sets ! (bin ! (get ! refl) (size_lit ! (record { fits = tiny })) (record { fits = far })) refl (tt, record { fits = far }) $ sets ! (bin ! (get ! refl) (get ! refl) tt) refl (tt, tt) $
    let n_at = at + 0 in let x_at = at + ahead X in let free : Option (ℕ × Option X.Denot) = Some (0, None) in let new : (Bk X).Denot = with_cells d (set cs i free) in
    rewrite ! 0 (λ (w : Option (ℕ × Option X.Denot)). ‵ (cell_own (R X) b at w)) asked.1 refl $ fsplit3 ! $ use1 𝓛 (‵ (fat full_share (ty_int w64) b n_at (vint w64 n))) (uint_out 𝓛 full_share w64 n b n_at) $ move ! (1 ∷ []) $
    use1 𝓛 (some (λ (v : Val). ‵ (fat full_share (value_ty X) b x_at v) ⊛ ‵ (X.own_val x (v ∷ [])))) (part_out 𝓛 (R X) refl full_share x b x_at) $ pick ! (λ v. split ! $ well_typed ! (λ good.
    -- [the value's place; what it owns; the serial's place; the way back; the others; ..]
    assigns ! (of_opd ! (lit ! tt)) (through ! refl (fld ! refl (stop !))) (store ! 2 refl (tt, record { fits = lit< tt })) $ sets ! (addr ! (through ! refl (fld ! refl (stop !)))) refl (tt, tt) $
    sets_last ! (of_opd ! (load ! (through ! refl (stop !)) (look ! 0 refl))) refl good $ exec ! 𝓣.C 𝓣.Λ En (after 1 (function X).body) (at_ret En (W.post y)) $ sets ! (of_opd ! (get ! refl)) refl good $
    use1 𝓛 (‵ (froom (value_ty X) b x_at)) (𝓛.laws.at_room (value_ty X) b x_at v) $ use1 𝓛 (‵ (froom (bare (value_ty X)) b x_at)) (𝓛.laws.room-raw (value_ty X) b x_at) $
    move ! (0 ∷ 3 ∷ []) $ fjoin ! $ move ! (2 ∷ []) $ use1 𝓛 (‵ (part_at u64 full_share 0 b n_at)) (uint_in 𝓛 full_share w64 0 b n_at) $ fjoin ! $ move ! (0 ∷ 2 ∷ 3 ∷ 4 ∷ 5 ∷ 6 ∷ 7 ∷ 8 ∷ []) $
    use2 𝓛 (‵ (cells_own (R X) b o new.cells)) (fill 𝓛 cs (Lies X b o) i free) $ fjoin ! $
    flt_i ! (512 * s) (2 ^ 63) small $ feq_i ! ℕ (length new.cells) 512 (still_long cs i free long) $ fjoin ! $ fjoin ! $ rewrite ! 0 (λ (p : Ptr). ‵ (block_own (R X) p new.cells)) (sym e) refl $
    move ! (1 ∷ 0 ∷ []) $ fjoin ! $ rewrite ! 1 Word (sym word) refl $ move ! (1 ∷ 0 ∷ []) $ closes ! tt (Bk X) new vs rb ro $
    -- [two parts of the `&mut`; its token; what the value owns; the other token]
    returns ! (look_at ! 0 refl) $ free_all ! refl $ suffices ! _ (ends_at 𝓛 T (stayed X) c y v x (new, (tt, tt)) (tt, (tt, tt))) $
    feq_i ! (List Val) (vptr rb ro ∷ []) (vptr rb ro ∷ []) refl $ fjoin3 ! $ nothing ! $ nothing ! $ fjoin ! $ move ! (1 ∷ 0 ∷ []) $ fjoin ! $
    nothing ! $ move ! (2 ∷ 4 ∷ 0 ∷ []) $ group ! 3 $ keep ! (0 ∷ 1 ∷ 2 ∷ []) $ group ! 3 $ frame ! $ says ! refl $
    use0 𝓛 (raw (fact 𝓤 (Holds cs i x))) (fact_i 𝓤 (Holds cs i x) (emp 𝓤) (ap value_of_place asked.1)) $ done !))))))))))
