-- `free` makes the block of its cells again, and hands it to the allocator with the right to it. Assumes `Logic`.
use mathlib.Core.Path.{refl, sym, ap, subst}
use Prim.Native.Nat.{◌*◌, ◌<◌, ◌^◌}
use mathlib.Core.List.{List, [], ◌∷◌}
use base.Logic.{id⊢}
use base.Fml.{ftrue, froom, flft}
use contract.BorrowLft.{◌⊑◌}
use contract.Monad.{fact}
use contract.Running.{tables}
use mir.Syntax.{Fn, w64, named}
use mir.MapTy.{inst_fn}
use mir.Val.{Val, vint, vptr, vunit, vstruct, vcons, vnil}
use prog.Wp.{WpFn}
use types.Kit.{‵, raw, ◌⊛◌, some, later, prop, at_ret, ◌$◌, ◌∵◌, !, qed, done, move, keep, drop, use1, split, join, group, pick, await, suffices, regoal, fsplit, fjoin, feq_i, feq_l, flt_i, flt_l}
use types.Part.{whole, sub}
use types.Run.{lit, unit_lit, stop, fld, of_opd, bin, size_lit, first, blocks, exec, returns, enter}
use types.ByLocal.{alloc_all, pass_all, free_all, look_at, get, sets, env}
use denote.Builtin.{RefOf}
use denote.RattleType.{RattleType}
use denote.Exit.{yes, no}
use denote.Param.Laws.{param_laws}
use denote.Plain.{uint_vals}
use denote.RawPtr.{Ptr, block_ptr, ptr_val, in_a_block}
use denote.Ref.{ShrRef, shr_vals, shr_Tells}
use denote.Signature.{plain}
use denote.Steps.{heard, nothing}
use denote.Triple.Walked.{Stays, stay_dropped, walk_of, ends_at, Goes-dropped}
use Rattle.std.proofs.VecSteps.Shapes.{after}
use Rattle.std.proofs.raw_atomic.Walks.{proved}
use Rattle.ac_pool.specs.Memory.{block_own}
use Rattle.ac_pool.specs.contracts.block.Block.free as f
use Rattle.ac_pool.specs.contracts.block.Block.free.Key.{name as #self}
use Rattle.ac_pool.proofs.RawCells.{args, R, Bk, step, is_word}
use native.Mathlib.Omega.{arith}
use Rattle.ac_pool.proofs.block.Block.TheLaws.{lowers}
use Rattle.ac_pool.proofs.block.Block.free.Statement.{statement}
use Rattle.ac_pool.proofs.block.Block.free.Code as code
use base.Logic.{emp}
use contract.Monad.{fact_i}
use denote.RawPtr.{rawptr_vals}
use denote.Builtin.{unit}
use denote.Steps.{only}
use denote.Triple.Call.{calls_at_last}
use denote.Triple.Clauses.{lasts}
use denote.Triple.Spec.{triple_of}
use denote.Triple.Table.{framed}
use lib.Dec.{T as Holds}
use mir.Syntax.{ty_unit}
use mir.Val.{has_ty, WT}
use prog.Memory.{capped, align}
use prog.Capped.{capped_fits}
use types.Kit.{use0, fpick}
use types.Run.{and_then, no_more, align_word}
use types.ByLocal.{get_in, lands_last}
use Rattle.std.proofs.alloc.Calls.{Goes-blank}
use Rattle.std.specs.Allocator.{HasLayout}
use Rattle.std.specs.contracts.alloc.Global.{the_row as Global}
use Rattle.ac_pool.specs.Places.{AreBare}
use Rattle.ac_pool.specs.Memory.{cell_type, block_type}
use Rattle.ac_pool.proofs.RawBlocks.{whole_again, block_size, block_align}
use Rattle.std.specs.contracts.impls.GlobalAllocator.deallocate as g
use Rattle.std.proofs.impls.GlobalAllocator.deallocate.Met.{met}

module _ (X : RattleType) where
  abbrev function : Fn
  function = inst_fn (args X) code.function

  abbrev stayed : Stays (f.ended X).signature.params (f.ended X).kept
  stayed = (stay_dropped (plain (λ _. Bk X)) no, (stay_dropped (RefOf (0 ∷ []) tt (plain (λ _. Global)) (λ _. tt)) yes, tt))

pub free_spec : {M : Type 1} → statement M
free_spec 𝓤 𝓛 𝓜 𝓡 wired X LX =
    let c = f.clauses X 𝓛 𝓜.mem 𝓡.returns in let T = f.ended X in
    let W = walk_of 𝓛 T (stayed X) c in let 𝓣 = tables 𝓤 𝓛.H 𝓜 𝓡 𝓡.env in let lows = lowers (R X) (param_laws 0 X LX) in
    proved 𝓛 T (stayed X) c 𝓜 𝓡
    (Goes-blank 𝓛 2 (plain (λ _. Bk X)) no (λ κs x w. tt), (Goes-dropped 𝓛 2 (RefOf (0 ∷ []) tt (plain (λ _. Global)) (λ _. tt)) yes (λ κs x w. refl), tt))
    (#self (args X)) (function X) (code.unfolded 𝓤 𝓛.H 𝓜 𝓡 wired (X, tt))
    (λ κs. ((λ d. lows.lowered d ∷ []), (shr_vals, tt))) (λ κs. (lows.val_is, (shr_Tells (named 0) κs.0 Global, tt))) (λ κs qs bounds a _ are.
    let κ = κs.0 in let κ' = κs.1.0 in let q = qs.0 in let q' = qs.1.0 in let d = a.0 in let r = a.1.0 in let cs = d.cells in
    let Asked : Type 0 = AreBare cs in
    let y : W.Ghost = ((κs, qs, bounds, a, (lows.lowered d ∷ [], (shr_vals r, tt))), tt) in
    qed 𝓛 (((‵ (flft κ q) ⊛ ‵ (flft κ' q') ⊛ ‵ ftrue) ⊛ ‵ ((Bk X).own_val d (lows.lowered d ∷ [])) ⊛ ‵ ((ShrRef (named 0) κ Global).own_val r (shr_vals r)) ⊛ ‵ ftrue) ∷ (raw (fact 𝓤 (κ' ⊑ X.lives)) ⊛ raw (fact 𝓤 Asked)) ∷ []) ∵
    move ! (1 ∷ []) $ split ! $ drop ! $ heard ! Asked (λ asked. split ! $ split ! $ move ! (1 ∷ []) $ split ! $ move ! (3 ∷ []) $ split ! $
    -- [the block; the `&`; ..; the tokens]
    fsplit ! $ move ! (1 ∷ []) $ in_a_block ! d.first (λ p. block_own (R X) p cs) (id⊢ 𝓤 _) (λ b o e. fsplit ! $ fsplit ! $ feq_l ! (λ long. flt_l ! (λ small. fsplit ! $ move ! (3 ∷ []) $ split ! $ keep ! (2 ∷ 3 ∷ 0 ∷ 7 ∷ 5 ∷ []) $
    let s = step X in let tiny : s < 2 ^ 64 = is_word s small in let far : 512 * s < 2 ^ 64 = omega (arith, small) in
    use1 𝓛 (‵ (froom (block_type (R X)) b o)) (whole_again X 𝓛 b o cs long asked) $
    move ! (1 ∷ []) $ fpick ! (λ heap. move ! (1 ∷ 0 ∷ []) $ fjoin ! $
    -- [the block, with the right to it; the `&`; the two tokens]
    regoal ! (λ (p : Ptr). prop (WpFn 𝓤 𝓛.H 𝓣.C 𝓣.Λ (function X) (vstruct (vcons (ptr_val p) vnil) ∷ vptr r.ref_ptr.0 r.ref_ptr.1 ∷ []) (W.post y))) e refl $
    enter ! _ _ _ _ _ $ alloc_all ! (λ l. pass_all ! refl ((tt, (tt, tt)), ((tt, tt), tt)) $
    let En = env (function X).locals l in let n = 512 * s in let al = capped (align (cell_type (R X))) in let τ = block_type (R X) in
    sets ! (of_opd ! (get_in ! (fld ! refl (stop !)) (sub ! 0 refl (whole !)))) refl (tt, tt) $ first ! $ blocks ! $ sets ! (of_opd ! (get ! refl)) refl (tt, tt) $
    sets ! (bin ! (lit ! tt) (size_lit ! (record { fits = tiny })) (record { fits = far })) refl (tt, record { fits = far }) $
    let G = triple_of 𝓛 g.signature (g.spec 𝓛 𝓜.mem 𝓡.returns) in let fits_al = capped_fits (align (cell_type (R X))) in let p : Ptr = block_ptr b o in
    let z : G.Ghost = (((κ, tt), (q, tt), tt, (r, (p, (n, (al, tt)))), (shr_vals r, (rawptr_vals p, (uint_vals w64 n, (uint_vals w64 al, tt))))), τ) in
    let laid : HasLayout τ n al = (block_size X far, block_align X) in
    use0 𝓛 (raw (fact 𝓤 (HasLayout τ n al))) (fact_i 𝓤 (HasLayout τ n al) (emp 𝓤) laid) $ join ! $
    nothing ! $ flt_i ! al (2 ^ 64) fits_al $ feq_i ! (List Val) (vint w64 al ∷ []) (vint w64 al ∷ []) refl $ fjoin ! $ fjoin ! $
    flt_i ! n (2 ^ 64) far $ feq_i ! (List Val) (vint w64 n ∷ []) (vint w64 n ∷ []) refl $ fjoin ! $ fjoin ! $ feq_i ! (List Val) (vptr b o ∷ []) (vptr b o ∷ []) refl $ fjoin ! $ move ! (2 ∷ 0 ∷ []) $ fjoin ! $
    nothing ! $ move ! (3 ∷ 0 ∷ []) $ join ! $ join ! $ join ! $ use1 𝓛 (raw (G.pre z)) (id⊢ 𝓤 _) $
    calls_at_last ! (framed 𝓤 𝓛.H 𝓜 𝓣) G (met 𝓤 𝓛 𝓜 𝓡 (code.calls-std::impls::GlobalAllocator::deallocate 𝓡.env wired)) z (and_then ! (get ! refl) (and_then ! (get ! refl) (and_then ! (get ! refl) (and_then ! (align_word !) (no_more !))))) (λ v.
    use1 𝓛 (later (some (λ (u : Unit {0}). ((‵ (flft κ q) ⊛ ‵ ftrue) ⊛ ‵ (unit.own_val u (v ∷ []))) ⊛ some (λ (ws : Unit {0} × (Unit {0} × (Unit {0} × (Unit {0} × Unit {0})))). ‵ (lasts g.ended z.0.0 z.0.3 ws) ⊛ ‵ ftrue)))) (id⊢ 𝓤 _) $
    await ! tt $ pick ! (λ u. split ! $ split ! $ move ! (1 ∷ []) $ feq_l ! (λ is. split ! $
    lands_last ! refl (subst (λ (w : Val). Holds (has_ty ty_unit w) × WT w) (sym (ap only is)) (tt, tt)) $ exec ! 𝓣.C 𝓣.Λ En (after 2 (function X).body) (at_ret En (W.post y)) $
    sets ! (of_opd ! (unit_lit !)) refl (tt, tt) $ returns ! (look_at ! 0 refl) $ free_all ! refl $ keep ! (0 ∷ 3 ∷ []) $
    suffices ! _ (ends_at 𝓛 T (stayed X) c y vunit tt (tt, (tt, tt)) (tt, (tt, tt))) $
    feq_i ! (List Val) (vunit ∷ []) (vunit ∷ []) refl $ nothing ! $ nothing ! $ fjoin ! $ nothing ! $ fjoin ! $ nothing ! $ move ! (3 ∷ 4 ∷ 0 ∷ 1 ∷ 2 ∷ []) $ group ! 3 $ group ! 3 $ nothing ! $ move ! (1 ∷ 0 ∷ []) $ done !))))))))))
