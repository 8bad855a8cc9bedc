-- `allocate` cuts a new block into cells that were never written. Assumes `Logic`.
use mathlib.Core.Path.{◌≡◌, refl}
use Prim.Native.Nat.{ℕ, ◌*◌, ◌<◌, ◌^◌}
use mathlib.Core.List.{List, [], ◌∷◌}
use lib.Dec.{lit<}
use lib.ListN.{length}
use base.Logic.{id⊢}
use base.Fml.{ftrue, flft}
use contract.BorrowLft.{◌⊑◌}
use contract.Monad.{fact}
use contract.Running.{tables}
use mir.Syntax.{Fn, w64, named}
use mir.MapTy.{inst_fn}
use mir.Val.{Val, vint, vptr, vstruct, vcons, vnil}
use types.Kit.{‵, raw, ◌⊛◌, some, later, prop, at_ret, ◌$◌, ◌∵◌, !, qed, done, move, keep, drop, use1, split, join, group, pick, await, suffices, fjoin, fpack, feq_i, flt_i}
use types.Part.{whole}
use types.Run.{lit, stop, fld, of_opd, bin, size_lit, first, exec, returns, enter}
use types.ByLocal.{alloc_all, pass_all, free_all, look_at, get, sets, sets_last, env}
use denote.Builtin.{RefOf}
use denote.Exit.{yes}
use denote.Laws.{Is}
use denote.Plain.{uint_vals}
use denote.RawPtr.{Ptr, block_ptr}
use denote.Ref.{ShrRef, shr_vals, shr_Tells}
use denote.Signature.{plain}
use denote.Steps.{nothing}
use denote.Triple.Walked.{Stays, stay_dropped, walk_of, ends_at, says, Goes-dropped}
use Rattle.std.proofs.VecSteps.Shapes.{after}
use Rattle.std.proofs.raw_atomic.Walks.{proved}
use Rattle.std.specs.Prelude.{None}
use Rattle.ac_pool.specs.Memory.{cells_own}
use Rattle.ac_pool.specs.contracts.block.Block as B
use Rattle.ac_pool.specs.contracts.block.Block.allocate as f
use Rattle.ac_pool.specs.contracts.block.Block.allocate.Key.{name as #self}
use Rattle.ac_pool.proofs.RawCells.{args, R, Bk, Fields, step}
use Rattle.ac_pool.proofs.block.Block.allocate.Statement.{statement}
use Rattle.ac_pool.proofs.block.Block.allocate.Code as code
use base.Logic.{emp}
use contract.Monad.{fact_i}
use denote.Laws.{Is}
use denote.Triple.Call.{calls_at}
use denote.Triple.Clauses.{lasts}
use denote.Triple.Spec.{triple_of}
use denote.Triple.Table.{framed}
use lib.Dec.{T as Holds}
use mir.Val.{has_ty, WT}
use prog.Memory.{capped, align}
use prog.Capped.{capped_fits}
use types.Kit.{use0}
use types.Part.{agg}
use types.Run.{and_then, no_more, align_word}
use types.ByLocal.{get_in}
use Rattle.std.specs.Prelude.{replicate}
use Rattle.std.specs.Allocator.{HasLayout}
use Rattle.std.specs.contracts.alloc.Global.{the_row as Global}
use Rattle.std.specs.contracts.impls.GlobalAllocator.TheImpl.{ghosts}
use Rattle.ac_pool.specs.Memory.{cell_type, block_type}
use Rattle.ac_pool.proofs.RawBlocks.{fresh_cells, block_size, block_align, refused, either_way, big}
use denote.Struct.Struct.{Struct, Struct-Makes}
use denote.Struct.Owning.{shape}
use denote.Struct.Declared as Declared
use denote.Steps.{owned}
use denote.RattleType.{RattleType}
use denote.Param.{layout}
use lib.Dec.{nltb→le}
use mathlib.Core.Bool.{true, false}
use native.Mathlib.Omega.{arith}
use prog.Capped.{capped_is, capped_small}
use prog.Wp.{Wp, after_seq, at_return}
use mir.Syntax.{Body}
use types.Kit.{Post as After, any_q, Sq}
use types.Match.{live, vrt, in_variant}
use types.Run.{size_word, branches, skips, returns_within, switches_on}
use types.ByLocal.{get_tag, lands_as}
use Rattle.std.specs.Prelude.{Option, Ok, Err, IfOk}
use Rattle.std.specs.Allocator.{block_if_ok}
use Rattle.std.proofs.VecSteps.Shapes.{head, arm_body}
use Rattle.std.proofs.ResultValues.{ok_of, err_of}
use Rattle.std.proofs.lemmas.List.{length-replicate}
use Rattle.std.specs.declared.alloc.Global.{Global as Heap}
use Rattle.std.proofs.alloc.Calls.{Answer, Answer-typed}
use Rattle.std.specs.contracts.alloc.AllocError as AE
use Rattle.std.specs.contracts.result.Result as RS
use Rattle.std.specs.contracts.impls.GlobalAllocator.allocate as g
use Rattle.std.proofs.impls.GlobalAllocator.allocate.Met.{met}

module _ (X : RattleType) where
  abbrev function : Fn
  function = inst_fn (args X) code.function

  abbrev stayed : Stays (f.ended X).signature.params (f.ended X).kept
  stayed = (stay_dropped (RefOf (0 ∷ []) tt (plain (λ _. Global)) (λ _. tt)) yes, tt)

  abbrev Out : RattleType
  Out = RS.the_row (Bk X) AE.the_row

pub allocate_spec : {M : Type 1} → statement M
allocate_spec 𝓤 𝓛 𝓜 𝓡 wired X LX =
    let c = f.clauses X 𝓛 𝓜.mem 𝓡.returns in let T = f.ended X in
    let W = walk_of 𝓛 T (stayed X) c in let 𝓣 = tables 𝓤 𝓛.H 𝓜 𝓡 𝓡.env in
    proved 𝓛 T (stayed X) c 𝓜 𝓡 (Goes-dropped 𝓛 2 (RefOf (0 ∷ []) tt (plain (λ _. Global)) (λ _. tt)) yes (λ κs x w. refl), tt)
    (#self (args X)) (function X) (code.unfolded 𝓤 𝓛.H 𝓜 𝓡 wired (X, tt)) (λ κs. (shr_vals, tt)) (λ κs. (shr_Tells (named 0) κs.0 Global, tt)) (λ κs qs bounds a _ are.
    let κ = κs.0 in let κ' = κs.1.0 in let q = qs.0 in let q' = qs.1.0 in let r = a.0 in
    let y : W.Ghost = ((κs, qs, bounds, a, (shr_vals r, tt)), tt) in
    let no_memory : Val = refused in let no_typed : Holds (has_ty (layout (Out X)) no_memory) × WT no_memory = (tt, (record { fits = lit< tt }, (tt, tt))) in
    let ends : (res : (Out X).Denot) (v : Val) → IfOk res (λ d. d.cells ≡ replicate 512 None) → Sq 𝓛 (‵ ((Out X).own_val res (v ∷ [])) ∷ ‵ (flft κ q) ∷ ‵ (flft κ' q') ∷ []) (prop (W.post y v)) = λ res v gives.
    suffices ! _ (ends_at 𝓛 T (stayed X) c y v res (tt, tt) (tt, tt)) $ says ! gives $
    nothing ! $ nothing ! $ fjoin ! $ nothing ! $ move ! (3 ∷ 4 ∷ 0 ∷ 1 ∷ 2 ∷ []) $ group ! 3 $ done ! in
    let Refusal : RattleType = Struct (Declared.shape AE.the_type) in
    let refuses : Sq 𝓛 (‵ (flft κ q) ∷ ‵ (flft κ' q') ∷ []) (prop (W.post y no_memory)) =
    owned ! Refusal (Is Refusal) (Struct-Makes 𝓛 (Declared.shape AE.the_type) tt) tt (vstruct vnil ∷ []) (tt, (refl, tt)) $
    use1 𝓛 (‵ ((Out X).own_val (Err (record {})) (no_memory ∷ []))) (err_of 𝓛 (Bk X) AE.the_row (record {}) (vstruct vnil)) $ ends (Err (record {})) no_memory tt in
    qed 𝓛 (((‵ (flft κ q) ⊛ ‵ (flft κ' q') ⊛ ‵ ftrue) ⊛ ‵ ((ShrRef (named 0) κ Global).own_val r (shr_vals r)) ⊛ ‵ ftrue) ∷ (raw (fact 𝓤 (κ' ⊑ X.lives)) ⊛ raw (emp 𝓤)) ∷ []) ∵
    split ! $ split ! $ move ! (1 ∷ []) $ split ! $ move ! (3 ∷ []) $ split ! $ keep ! (0 ∷ 4 ∷ 2 ∷ []) $
    -- [the `&`; the two tokens]
    enter ! _ _ _ _ _ $ alloc_all ! (λ l. pass_all ! refl ((tt, tt), tt) $
    let En = env (function X).locals l in let s = step X in let al = capped (align (cell_type (R X))) in let τ = block_type (R X) in let most : ℕ = 18014398509481983 in
    sets ! (bin ! (big ! most (lit< tt)) (size_word !) tt) refl (tt, tt) $ first ! $ branches ! (get ! refl)
    (λ large. sets ! (agg ! (no_more !)) refl (tt, tt) $ sets ! (agg ! (and_then ! (lit ! tt) (and_then ! (get ! refl) (no_more !)))) refl no_typed $
    returns_within ! (W.post y) refl (look_at ! 0 refl) $ free_all ! refl $ keep ! (1 ∷ 2 ∷ []) $ refuses)
    (λ fine. skips ! $ exec ! 𝓣.C 𝓣.Λ En (after 2 (function X).body) (at_ret En (W.post y)) $
    let low = nltb→le most (capped s) fine in let under : capped s < 2 ^ 63 = omega (arith, low) in
    let low_s : s < 2 ^ 63 = capped_small s under in let tiny : s < 2 ^ 64 = omega (arith, low_s) in let same : capped s ≡ s = capped_is s tiny in
    let small : 512 * s < 2 ^ 63 = omega (arith, low, same) in let n = 512 * s in let far : n < 2 ^ 64 = omega (arith, small) in
    sets ! (bin ! (lit ! tt) (size_lit ! (record { fits = tiny })) (record { fits = far })) refl (tt, record { fits = far }) $
    let G = triple_of 𝓛 g.signature (g.spec 𝓛 𝓜.mem 𝓡.returns) in let fits_al = capped_fits (align (cell_type (R X))) in
    let z : G.Ghost = (((κ, tt), (q, tt), tt, (r, (n, (al, tt))), (shr_vals r, (uint_vals w64 n, (uint_vals w64 al, tt)))), τ) in
    let laid : HasLayout τ n al = (block_size X far, block_align X) in
    use0 𝓛 (raw (fact 𝓤 (HasLayout τ n al))) (fact_i 𝓤 (HasLayout τ n al) (emp 𝓤) laid) $
    nothing ! $ flt_i ! al (2 ^ 64) fits_al $ feq_i ! (List Val) (vint w64 al ∷ []) (vint w64 al ∷ []) refl $ fjoin ! $ fjoin ! $
    flt_i ! n (2 ^ 64) far $ feq_i ! (List Val) (vint w64 n ∷ []) (vint w64 n ∷ []) refl $ fjoin ! $ fjoin ! $ move ! (2 ∷ 0 ∷ []) $ fjoin ! $
    nothing ! $ move ! (3 ∷ 0 ∷ []) $ join ! $ join ! $ join ! $ use1 𝓛 (raw (G.pre z)) (id⊢ 𝓤 _) $
    calls_at ! (framed 𝓤 𝓛.H 𝓜 𝓣) G (met 𝓤 𝓛 𝓜 𝓡 (code.calls-std::impls::GlobalAllocator::allocate 𝓡.env wired)) z (and_then ! (get ! refl) (and_then ! (get ! refl) (and_then ! (align_word !) (no_more !)))) (λ v.
    use1 𝓛 (later (some (λ (u : Answer.Denot). ((‵ (flft κ q) ⊛ ‵ ftrue) ⊛ ‵ (Answer.own_val u (v ∷ []))) ⊛ some (λ (ws : Unit {0} × (Unit {0} × (Unit {0} × Unit {0}))). ‵ (lasts g.ended z.0.0 z.0.3 ws)
    ⊛ ‵ (block_if_ok (ghosts.dealloc_token r.now) τ u))))) (id⊢ 𝓤 _) $
    await ! tt $ pick ! (λ u. split ! $ split ! $ move ! (2 ∷ []) $ pick ! (λ ws. split ! $ drop ! $ move ! (2 ∷ 0 ∷ []) $
    -- [what was answered; the block; the token; ..; the other token]
    let both : Body = head (after 4 (function X).body) in
    let Then : After 𝓤 𝓛.H = any_q (after_seq 𝓤 𝓛.H (Wp 𝓤 𝓛.H 𝓣.C 𝓣.Λ En (after 5 (function X).body) (at_return 𝓤 𝓛.H En (W.post y))) (at_return 𝓤 𝓛.H En (W.post y))) in
    either_way (ghosts.dealloc_token r.now) τ ! u v
    (λ b o is.
    let p : Ptr = block_ptr b o in let d : (Bk X).Denot = record { first = p; cells = replicate 512 None } in let word : Val = vstruct (vcons (vptr b o) vnil) in let made : Val = live 0 (vcons word vnil) in
    let made_typed : Holds (has_ty (layout (Out X)) made) × WT made = (tt, (record { fits = lit< tt }, ((tt, tt), tt))) in
    lands_as ! is refl (Answer-typed true b o) $ first ! $ switches_on ! (get_tag ! (vrt ! refl (fld ! refl (stop !))) (whole !)) $ exec ! 𝓣.C 𝓣.Λ En (arm_body 0 both) Then $
    sets ! (of_opd ! (get_in ! (vrt ! refl (fld ! refl (stop !))) (in_variant ! 0 0 refl refl (whole !)))) refl (tt, tt) $ sets ! (of_opd ! (get ! refl)) refl (tt, tt) $
    sets ! (agg ! (and_then ! (get ! refl) (no_more !))) refl (tt, (tt, tt)) $ sets_last ! (agg ! (and_then ! (lit ! tt) (and_then ! (get ! refl) (no_more !)))) refl made_typed $
    exec ! 𝓣.C 𝓣.Λ En (after 5 (function X).body) (at_ret En (W.post y)) $ sets ! (of_opd ! (get ! refl)) refl made_typed $
    use1 𝓛 (‵ (cells_own (R X) b o d.cells)) (fresh_cells X 𝓛 b o) $ move ! (1 ∷ []) $
    fpack ! Heap (λ heap. ghosts.dealloc_token heap τ p) r.now $ move ! (1 ∷ 0 ∷ []) $ fjoin ! $
    flt_i ! (512 * s) (2 ^ 63) small $ feq_i ! ℕ (length d.cells) 512 (length-replicate {A = Option (ℕ × Option X.Denot)} 512 None) $ fjoin ! $ fjoin ! $
    owned ! (Fields X) (Is (Fields X)) (Struct-Makes 𝓛 (shape (B.the_type (R X))) ((λ x vs. tt), tt)) (p, tt) (word ∷ []) ((vptr b o ∷ [], tt), (refl, (refl, tt))) $ fjoin ! $
    use1 𝓛 (‵ ((Out X).own_val (Ok d) (made ∷ []))) (ok_of 𝓛 (Bk X) AE.the_row d word) $
    returns ! (look_at ! 0 refl) $ free_all ! refl $ move ! (1 ∷ []) $ split ! $ keep ! (2 ∷ 0 ∷ 3 ∷ []) $ ends (Ok d) made refl)
    (λ is. lands_as ! is refl (Answer-typed false 0 0) $ first ! $ switches_on ! (get_tag ! (vrt ! refl (fld ! refl (stop !))) (whole !)) $ exec ! 𝓣.C 𝓣.Λ En (arm_body 1 both) Then $
    sets ! (of_opd ! (get_in ! (vrt ! refl (fld ! refl (stop !))) (in_variant ! 1 0 refl refl (whole !)))) refl (tt, tt) $
    sets_last ! (agg ! (and_then ! (lit ! tt) (and_then ! (get ! refl) (no_more !)))) refl no_typed $
    exec ! 𝓣.C 𝓣.Λ En (after 5 (function X).body) (at_ret En (W.post y)) $ sets ! (of_opd ! (get ! refl)) refl no_typed $
    returns ! (look_at ! 0 refl) $ free_all ! refl $ split ! $ keep ! (0 ∷ 2 ∷ []) $ refuses)))))))
