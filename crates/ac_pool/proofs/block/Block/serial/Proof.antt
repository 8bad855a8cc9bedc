-- `serial` reads the pointer through the `&`, and then the number that the cell begins with. Assumes `Logic`.
use mathlib.Core.Path.{refl, sym, ap}
use Prim.Native.Nat.{ℕ, ◌+◌, ◌*◌, ◌<◌, ◌^◌}
use mathlib.Core.List.{List, [], ◌∷◌}
use lib.ListN.{length, get_or}
use base.Logic.{id⊢}
use base.Fml.{ftrue, fhide, flft}
use contract.BorrowLft.{◌⊑◌}
use contract.Monad.{fact}
use contract.Running.{tables}
use mir.Syntax.{Fn, w64, named}
use mir.MapTy.{inst_fn}
use mir.Val.{Val, vint}
use types.Kit.{‵, raw, ◌⊛◌, at_ret, ◌$◌, ◌∵◌, !, qed, done, move, keep, drop, use1, split, group, suffices, fsplit, fjoin, feq_i, feq_l, flt_i, flt_l, rewrite}
use types.Run.{look, load, stop, fld, of_opd, bin, size_lit, first, blocks, exec, returns, enter}
use types.ByLocal.{alloc_all, pass_all, free_all, look_at, get, through, sets, sets_last, env}
use denote.Builtin.{RefOf, usize, u64}
use denote.Copied.{uint_Copied}
use denote.RattleType.{RattleType}
use denote.Exit.{yes}
use denote.Memory.{cell_at, hidden_shr}
use denote.Opens.{unhide, hide}
use denote.Plain.{uint_vals, uint_Tells}
use denote.RawPtr.{Ptr, block_ptr, in_a_block}
use denote.Ref.{ShrRef, shr_vals, shr_Tells}
use denote.Signature.{plain}
use denote.Steps.{heard, nothing, looks, shuts}
use denote.Struct.Lending.{lent_out}
use denote.Triple.Walked.{Stays, stay_dropped, walk_of, ends_at, says, Goes-dropped}
use Rattle.std.proofs.VecSteps.Shapes.{after}
use Rattle.std.proofs.raw_atomic.Walks.{proved}
use Rattle.std.proofs.Words.{pointer_in, pointer_out}
use Rattle.std.specs.Prelude.{Option, None}
use Rattle.ac_pool.specs.Places.{serial_of_place, IsWritten}
use Rattle.ac_pool.specs.Memory.{cell_lent, block_lent}
use Rattle.ac_pool.specs.contracts.block.Block as B
use Rattle.ac_pool.specs.contracts.block.Block.serial as f
use Rattle.ac_pool.specs.contracts.block.Block.serial.Key.{name as #self}
use Rattle.ac_pool.proofs.RawCells.{args, R, Bk, Fields, step, is_word, is_near, first_shown}
use Rattle.ac_pool.proofs.Cells.{within}
use Rattle.ac_pool.proofs.Rows.{see}
use native.Mathlib.Omega.{arith}
use Rattle.ac_pool.proofs.block.Block.serial.Statement.{statement}
use Rattle.ac_pool.proofs.block.Block.serial.Code as code

module _ (X : RattleType) where
  abbrev function : Fn
  function = inst_fn (args X) code.function

  abbrev stayed : Stays (f.ended X).signature.params (f.ended X).kept
  stayed = (stay_dropped (RefOf (0 ∷ []) tt (plain (λ _. Bk X)) (λ _. tt)) yes, (stay_dropped (plain (λ _. usize)) yes, tt))

pub serial_spec : {M : Type 1} → statement M
serial_spec 𝓤 𝓛 𝓜 𝓡 wired X LX =
    let c = f.clauses X 𝓛 𝓜.mem 𝓡.returns in let T = f.ended X in
    let W = walk_of 𝓛 T (stayed X) c in let 𝓣 = tables 𝓤 𝓛.H 𝓜 𝓡 𝓡.env in
    proved 𝓛 T (stayed X) c 𝓜 𝓡
    (Goes-dropped 𝓛 2 (RefOf (0 ∷ []) tt (plain (λ _. Bk X)) (λ _. tt)) yes (λ κs x w. refl), (Goes-dropped 𝓛 2 (plain (λ _. usize)) yes (λ κs x w. refl), tt))
    (#self (args X)) (function X) (code.unfolded 𝓤 𝓛.H 𝓜 𝓡 wired (X, tt))
    (λ κs. (shr_vals, (uint_vals w64, tt))) (λ κs. (shr_Tells (named 0) κs.0 (Bk X), (uint_Tells w64, tt))) (λ κs qs bounds a _ are.
    let κ = κs.0 in let κ' = κs.1.0 in let q = qs.0 in let q' = qs.1.0 in let rb = a.0.ref_ptr.0 in let ro = a.0.ref_ptr.1 in let d = a.0.now in let i = a.1.0 in let cs = d.cells in
    let Asked : Type 0 = IsWritten cs i in let fits_i : i < 2 ^ 64 = are.1.0.1 in
    let y : W.Ghost = ((κs, qs, bounds, a, (shr_vals a.0, (uint_vals w64 i, tt))), tt) in
    qed 𝓛 (((‵ (flft κ q) ⊛ ‵ (flft κ' q') ⊛ ‵ ftrue) ⊛ ‵ ((ShrRef (named 0) κ (Bk X)).own_val a.0 (shr_vals a.0)) ⊛ ‵ (usize.own_val i (uint_vals w64 i)) ⊛ ‵ ftrue) ∷ (raw (fact 𝓤 (κ' ⊑ X.lives)) ⊛ raw (fact 𝓤 Asked)) ∷ []) ∵
    move ! (1 ∷ []) $ split ! $ drop ! $ heard ! Asked (λ asked. split ! $ split ! $ move ! (1 ∷ []) $ split ! $ move ! (3 ∷ []) $ split ! $ fsplit ! $ keep ! (1 ∷ 5 ∷ 3 ∷ []) $
    -- [what the `&` shows; the two tokens]
    enter ! _ _ _ _ _ $ alloc_all ! (λ l. pass_all ! refl ((tt, tt), ((tt, record { fits = fits_i }), tt)) $
    let En = env (function X).locals l in let s = step X in
    use1 𝓛 (‵ (hidden_shr (Fields X) κ (d.first, tt) rb ro) ⊛ ‵ (fhide (block_lent (R X) d.first cs κ))) (lent_out 𝓛 (B.struct (R X)) (B.the_codes X.Denot (R X).coded) (B.the_heap (R X)) (B.the_lent (R X)) κ d rb ro) $
    split ! $ move ! (1 ∷ []) $ unhide ! $ in_a_block ! d.first (λ p. block_lent (R X) p cs κ) (id⊢ 𝓤 _) (λ b o e. fsplit ! $ fsplit ! $ feq_l ! (λ long. flt_l ! (λ small.
    let there : i < length cs = within cs i asked.0 asked.1 in let at = i * s + o in let Shown = λ (j : ℕ) (w : Option (ℕ × Option X.Denot)). cell_lent (R X) b (j * s + o) w κ in
    let tiny : s < 2 ^ 64 = is_word s small in let far : i * s < 2 ^ 64 = is_near i s (omega (arith, there, long)) small in
    use1 𝓛 (‵ (Shown i (get_or cs i None))) (see 𝓛 cs Shown i None there) $ rewrite ! 0 (λ (w : Option (ℕ × Option X.Denot)). ‵ (Shown i w)) asked.1 refl $ fsplit ! $ move ! (1 ∷ []) $ drop ! $ fsplit ! $ drop ! $
    rewrite ! 1 (λ (p : Ptr). ‵ (hidden_shr (Fields X) κ (p, tt) rb ro)) e refl $
    -- [the part of the cell; the pointer's field; the two tokens]
    move ! (1 ∷ 2 ∷ []) $ pointer_in ! tt (block_ptr b o) tt rb (ro + 0) (first_shown X 𝓛 κ rb ro (block_ptr b o)) (λ share.
    first ! $ blocks ! $ sets ! (of_opd ! (load ! (through ! refl (fld ! refl (stop !))) (look ! 1 refl))) refl (tt, tt) $ pointer_out ! tt (block_ptr b o) tt rb (ro + 0) $
    -- [the token; the pointer's field; the part of the cell; the other token]
    sets ! (bin ! (get ! refl) (size_lit ! (record { fits = tiny })) (record { fits = far })) refl (tt, record { fits = far }) $ sets ! (bin ! (get ! refl) (get ! refl) tt) refl (tt, tt) $
    let n = asked.0.0 in let place = at + 0 in move ! (2 ∷ 0 ∷ []) $ hide ! $ looks ! tt u64 (uint_Copied 𝓛 w64).opens n b place (λ part vs. move ! (1 ∷ []) $ fsplit ! $ feq_l ! (λ is. flt_l ! (λ fits.
    rewrite ! 0 (λ (us : List Val). ‵ (cell_at part u64.mir us b place)) is refl $
    sets_last ! (of_opd ! (load ! (through ! refl (fld ! refl (stop !))) (look ! 0 refl))) refl (tt, record { fits = fits }) $
    exec ! 𝓣.C 𝓣.Λ En (after 1 (function X).body) (at_ret En (W.post y)) $ sets ! (of_opd ! (get ! refl)) refl (tt, record { fits = fits }) $
    flt_i ! n (2 ^ 64) fits $ feq_i ! (List Val) (vint w64 n ∷ []) (vint w64 n ∷ []) refl $ fjoin ! $ move ! (1 ∷ 0 ∷ []) $ shuts ! tt u64 part n (vint w64 n ∷ []) b place $
    returns ! (look_at ! 0 refl) $ free_all ! refl $ keep ! (0 ∷ 3 ∷ []) $
    suffices ! _ (ends_at 𝓛 T (stayed X) c y (vint w64 n) n (tt, (tt, tt)) (tt, (tt, tt))) $ says ! (ap serial_of_place (sym asked.1)) $
    flt_i ! n (2 ^ 64) fits $ feq_i ! (List Val) (vint w64 n ∷ []) (vint w64 n ∷ []) refl $ fjoin ! $
    nothing ! $ nothing ! $ fjoin ! $ nothing ! $ fjoin ! $ nothing ! $ move ! (3 ∷ 4 ∷ 0 ∷ []) $ group ! 3 $ done !))))))))))
