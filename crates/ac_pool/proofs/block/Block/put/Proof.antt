-- `put` writes the serial and the value into the cell. Assumes `Logic`.
use mathlib.Core.Path.{refl, sym, ap, ◌∙◌}
use Prim.Native.Nat.{ℕ, ◌+◌, ◌*◌, ◌<◌, ◌^◌}
use mathlib.Core.List.{List, [], ◌∷◌, ◌++◌}
use lib.ListN.{length, get_or, set}
use base.Fraction.{full_share}
use base.Logic.{id⊢}
use base.Fml.{ftrue, froom, flft}
use contract.BorrowLft.{◌⊑◌}
use contract.Monad.{fact}
use contract.Running.{tables}
use mir.Syntax.{Fn, w64, ty_int, named}
use mir.MapTy.{inst_fn}
use mir.Val.{Val, vptr, vunit, vstruct, vcons, vnil}
use prog.Wp.{WpFn}
use types.Kit.{‵, raw, ◌⊛◌, prop, at_ret, ◌$◌, ◌∵◌, !, qed, done, move, keep, drop, use1, use2, split, split3, group, suffices, regoal, fsplit, fsplit3, fjoin, fjoin3, feq_i, feq_l, flt_i, flt_l, rewrite}
use types.Part.{whole, sub, look_in}
use types.Run.{load, init, unit_lit, stop, fld, of_opd, addr, bin, size_lit, assigns, assigns_last, first, blocks, exec, returns, enter}
use types.ByLocal.{alloc_all, pass_all, free_all, look_at, get, through, sets, env}
use denote.Builtin.{usize, u64}
use denote.RattleType.{RattleType}
use denote.Exit.{yes, no}
use denote.Laws.{Is, shows}
use denote.Memory.{cell_at, part_at}
use denote.Param.Laws.{param_laws}
use denote.Plain.{uint_in}
use denote.RawPtr.{Ptr, ptr_val, in_a_block}
use denote.Ref.{MutRef}
use denote.Signature.{plain}
use denote.Steps.{heard, nothing, opens, closes, peeks}
use denote.Triple.Walked.{Stays, stay_dropped, stay_ref, walk_of, ends_at, says, Goes-dropped, Goes-ref}
use Rattle.std.proofs.VecSteps.Shapes.{after}
use Rattle.std.proofs.raw_atomic.Walks.{proved_at}
use Rattle.std.specs.Prelude.{Option, Some, None}
use Rattle.ac_pool.specs.Places.{IsBare}
use Rattle.ac_pool.specs.BlockLends.{with_cells}
use Rattle.ac_pool.specs.Memory.{cell_own, cells_own, block_own, way_back}
use Rattle.ac_pool.specs.contracts.block.Block.put as f
use Rattle.ac_pool.specs.contracts.block.Block.put.Key.{name as #self}
use Rattle.ac_pool.proofs.RawCells.{args, R, Bk, Lies, value_ty, step, ahead, is_word, is_near, still_long, opened, passed}
use Rattle.ac_pool.proofs.Rows.{gap, lift, fill}
use borrow.Table.OneValue.{part_in}
use native.Mathlib.Omega.{arith}
use Rattle.ac_pool.proofs.block.Block.TheLaws.{lowers}
use Rattle.ac_pool.proofs.block.Block.put.Statement.{statement}
use Rattle.ac_pool.proofs.block.Block.put.Code as code

module _ (X : RattleType) where
  abbrev function : Fn
  function = inst_fn (args X) code.function

  abbrev stayed : Stays (f.ended X).signature.params (f.ended X).kept
  stayed = (stay_ref (0 ∷ []) tt (plain (λ _. Bk X)), (stay_dropped (plain (λ _. usize)) yes, (stay_dropped (plain (λ _. u64)) yes, (stay_dropped (plain (λ _. R X)) no, tt))))

pub put_spec : {M : Type 1} → statement M
put_spec 𝓤 𝓛 𝓜 𝓡 wired X LX =
    let c = f.clauses X 𝓛 𝓜.mem 𝓡.returns in let T = f.ended X in
    let W = walk_of 𝓛 T (stayed X) c in let 𝓣 = tables 𝓤 𝓛.H 𝓜 𝓡 𝓡.env in
    proved_at 𝓛 T (stayed X) c 𝓜 𝓡
    (Goes-ref 𝓛 2 0 tt (plain (λ _. Bk X)), (Goes-dropped 𝓛 2 (plain (λ _. usize)) yes (λ κs x w. refl), (Goes-dropped 𝓛 2 (plain (λ _. u64)) yes (λ κs x w. refl), (Goes-dropped 𝓛 2 (plain (λ _. R X)) no (λ κs x w. refl), tt))))
    (#self (args X)) (function X) (code.unfolded 𝓤 𝓛.H 𝓜 𝓡 wired (X, tt)) (λ y _.
    let κ = y.0.0.0 in let κ' = y.0.0.1.0 in let q = y.0.1.0 in let q' = y.0.1.1.0 in let a = y.0.3 in let us0 = y.0.4.0 in let us1 = y.0.4.1.0 in let us2 = y.0.4.1.1.0 in let us3 = y.0.4.1.1.1.0 in
    let rb = a.0.ref_ptr.0 in let ro = a.0.ref_ptr.1 in let d = a.0.now in let i = a.1.0 in let n = a.1.1.0 in let x = a.1.1.1.0 in let cs = d.cells in
    let Within : Type 0 = i < 512 in let Bare : Type 0 = IsBare cs i in
    qed 𝓛 (((‵ (flft κ q) ⊛ ‵ (flft κ' q') ⊛ ‵ ftrue) ⊛ ‵ ((MutRef (named 0) κ (Bk X)).own_val a.0 us0) ⊛ ‵ (usize.own_val i us1) ⊛ ‵ (u64.own_val n us2) ⊛ ‵ ((R X).own_val x us3) ⊛ ‵ ftrue)
    ∷ (raw (fact 𝓤 (κ' ⊑ X.lives)) ⊛ raw (fact 𝓤 Within) ⊛ raw (fact 𝓤 Bare)) ∷ []) ∵
    move ! (1 ∷ []) $ split3 ! $ drop ! $ heard ! Within (λ there. heard ! Bare (λ bare. split ! $ split ! $ move ! (1 ∷ []) $ split ! $ move ! (3 ∷ []) $ split3 ! $ move ! (2 ∷ []) $ split3 ! $
    -- [the serial; the value; nothing; the `&mut`; the index; ..; the tokens]
    move ! (3 ∷ []) $ fsplit3 ! $ feq_l ! (λ e0. move ! (5 ∷ []) $ fsplit ! $ feq_l ! (λ e1. flt_l ! (λ fits_i. move ! (2 ∷ []) $ fsplit ! $ feq_l ! (λ e2. flt_l ! (λ fits_n.
    move ! (2 ∷ []) $ passed X LX ! x us3 (λ v e3 good. keep ! (1 ∷ 2 ∷ 6 ∷ 0 ∷ 4 ∷ []) $
    -- [two parts of the `&mut`; its token; what the value owns; the other token]
    regoal ! (λ (ws : List Val × List Val × List Val × List Val). prop (WpFn 𝓤 𝓛.H 𝓣.C 𝓣.Λ (function X) (ws.0 ++ (ws.1 ++ (ws.2 ++ (ws.3 ++ [])))) (W.post y))) (λ j. (e0 j, e1 j, e2 j, e3 j)) refl $
    enter ! _ _ _ _ _ $ alloc_all ! (λ l. pass_all ! refl ((tt, tt), ((tt, record { fits = fits_i }), ((tt, record { fits = fits_n }), (good, tt)))) $
    let En = env (function X).locals l in let s = step X in
    opens ! tt (Bk X) {h = d} rb ro (λ vs. move ! (1 ∷ []) $ peeks ! (Bk X) (Is (Bk X)) (shows 𝓛 (Bk X)) d vs (λ is. fsplit ! $ move ! (1 ∷ []) $
    in_a_block ! d.first (λ p. block_own (R X) p cs) (id⊢ 𝓤 _) (λ b o e. fsplit ! $ fsplit ! $ feq_l ! (λ long. flt_l ! (λ small. fsplit ! $
    let at = i * s + o in let tiny : s < 2 ^ 64 = is_word s small in let inside : i < length cs = omega (arith, there, long) in let far : i * s < 2 ^ 64 = is_near i s there small in
    let Word = λ (ws : List Val). ‵ (cell_at full_share (Bk X).mir ws rb ro) in
    let word = (lowers (R X) (param_laws 0 X LX)).val_is d vs is ∙ ap (λ (p : Ptr). vstruct (vcons (ptr_val p) vnil) ∷ []) e in
    rewrite ! 3 Word word refl $ use1 𝓛 (‵ (cell_own (R X) b at (get_or cs i None)) ⊛ ‵ (gap cs (Lies X b o) i)) (lift 𝓛 cs (Lies X b o) i None inside) $ split ! $
    -- [the cell; the others; the right to the block; the fields; where they lie; the open borrow, in three entries; the rest]
    first ! $ blocks ! $ sets ! (of_opd ! (load ! (through ! refl (fld ! refl (stop !))) (look_in ! 4 (sub ! 0 refl (whole !))))) refl (tt, tt) $
    sets ! (bin ! (get ! refl) (size_lit ! (record { fits = tiny })) (record { fits = far })) refl (tt, record { fits = far }) $ sets ! (bin ! (get ! refl) (get ! refl) tt) refl (tt, tt) $
    let n_at = at + 0 in let x_at = at + ahead X in let cell : Option (ℕ × Option X.Denot) = Some (n, Some x) in let new : (Bk X).Denot = with_cells d (set cs i cell) in
    use1 𝓛 (‵ (froom (ty_int w64) b n_at) ⊛ ‵ (froom (value_ty X) b x_at) ⊛ ‵ (way_back (R X) b at)) (opened X 𝓛 b at (get_or cs i None) bare) $ split3 ! $
    -- [room for the serial; for the value; the way back; the others; ..]
    assigns ! (of_opd ! (get ! refl)) (through ! refl (fld ! refl (stop !))) (init ! 0 refl (tt, record { fits = fits_n })) $ sets ! (addr ! (through ! refl (fld ! refl (stop !)))) refl (tt, tt) $
    sets ! (of_opd ! (get ! refl)) refl good $ assigns_last ! (of_opd ! (get ! refl)) (through ! refl (stop !)) (init ! 1 refl good) $
    exec ! 𝓣.C 𝓣.Λ En (after 1 (function X).body) (at_ret En (W.post y)) $ sets ! (of_opd ! (unit_lit !)) refl (tt, tt) $
    use1 𝓛 (‵ (part_at u64 full_share n b n_at)) (uint_in 𝓛 full_share w64 n b n_at) $ move ! (1 ∷ 10 ∷ []) $ use2 𝓛 (‵ (part_at (R X) full_share x b x_at)) (part_in 𝓛 (R X) refl full_share x b x_at v) $
    move ! (0 ∷ 2 ∷ []) $ fjoin ! $ move ! (1 ∷ 0 ∷ []) $ fjoin ! $
    use2 𝓛 (‵ (cells_own (R X) b o new.cells)) (fill 𝓛 cs (Lies X b o) i cell) $ fjoin ! $
    flt_i ! (512 * s) (2 ^ 63) small $ feq_i ! ℕ (length new.cells) 512 (still_long cs i cell long) $ fjoin ! $ fjoin ! $ rewrite ! 0 (λ (p : Ptr). ‵ (block_own (R X) p new.cells)) (sym e) refl $
    move ! (1 ∷ 0 ∷ []) $ fjoin ! $ rewrite ! 1 Word (sym word) refl $ move ! (1 ∷ 0 ∷ []) $ closes ! tt (Bk X) new vs rb ro $
    returns ! (look_at ! 0 refl) $ free_all ! refl $ suffices ! _ (ends_at 𝓛 T (stayed X) c y vunit tt (new, (tt, (tt, (tt, tt)))) (tt, (tt, (tt, (tt, tt))))) $ says ! refl $
    feq_i ! (List Val) us0 (vptr rb ro ∷ []) e0 $ fjoin3 ! $ nothing ! $ nothing ! $ fjoin ! $ nothing ! $ fjoin ! $ nothing ! $ fjoin ! $ move ! (1 ∷ 0 ∷ []) $ fjoin ! $
    feq_i ! (List Val) (vunit ∷ []) (vunit ∷ []) refl $ nothing ! $ move ! (3 ∷ 4 ∷ 0 ∷ 2 ∷ 1 ∷ []) $ group ! 3 $ done !)))))))))))))))
