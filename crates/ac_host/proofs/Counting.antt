-- What begins no block of tasks leaves their count.
use Rattle.std.proofs.Common.{◌≡◌, ◌++◌, ℕ, Bool, true, false, List, [], ◌∷◌, nat_lt, refl, sym, ap, ◌∙◌, Option, Some, None, Result, if◌then◌else◌, OnOk}
use Rattle.std.proofs.lemmas.Result.{on_ok_weaker}
use Rattle.ac_base.specs.Limits.{numbers_end}
use Rattle.ac_base.specs.declared.value.Value.{Value}
use Rattle.ac_model.specs.Cursors.{plain_mark}
use Rattle.ac_model.specs.Letters.{Mark}
use Rattle.ac_rules.specs.Resolved.{ResolvedSimple}
use Rattle.ac_rules.specs.declared.resolved.ResolvedDecl.{ResolvedDecl}
use Rattle.ac_rules.specs.declared.resolved.ResolvedDecl.TheVariants as decl
use Rattle.ac_calls.specs.Holdings.{Held, Guards}
use Rattle.ac_meaning.specs.Environment.{State, objects_by, under, object_at, leaving, Declared, unless_spent, after_decl, after_decls}
use Rattle.ac_meaning.specs.Execution.{End, commanded, key_end_on}
use Rattle.ac_meaning.specs.UnderGuards.{held_without}
use Rattle.ac_meaning.proofs.CommandsStay.{command_stays}
use Rattle.ac_objects.specs.declared.blocks.ViewKey.{ViewKey}
use Rattle.ac_objects.specs.declared.blocks.ViewKey.TheVariants as keys
use Rattle.ac_objects.specs.Blocks.{holding, releasing, guards_of_open_update, guards_of_view_key}
use Rattle.ac_objects.specs.World.{World}
use Rattle.ac_host.specs.declared.end.HostEnd.{HostEnd}
use Rattle.ac_host.specs.Ready.{IsUnder}
use Rattle.ac_host.specs.Running.{key_ending}
use Rattle.ac_host.specs.Writing.{Ran}

abbrev pub SameCount : World → World → Type 0
SameCount w now = now.counters.blocks ≡ w.counters.blocks

pub same_blocks : {w now : World} → now ≡ w → SameCount w now
same_blocks is = ap (λ (w : World). w.counters.blocks) is

-- Names that come and go, and guards

pub same_count : {s t : State} → t ≡ s → t.blocks ≡ s.blocks
same_count is = ap (λ (s : State). s.blocks) is

pub holding_count : (more : Guards) (e : State) → (holding more e).blocks ≡ e.blocks
holding_count [] e = refl
holding_count (g ∷ more) e = holding_count more e

pub releasing_count : (more : Guards) (e : State) → (releasing more e).blocks ≡ e.blocks
releasing_count [] e = refl
releasing_count (g ∷ more) e = releasing_count more (objects_by (held_without g) e)

-- Declarations

either_count : (t : Bool) (x y : Declared) (n : ℕ) → x.after.blocks ≡ n → y.after.blocks ≡ n → (if t then x else y).after.blocks ≡ n
either_count true x y n h k = h
either_count false x y n h k = k

decl_count : (e : State) (d : ResolvedDecl) → (after_decl e d).after.blocks ≡ e.blocks
decl_count e decl.TypeDecl = refl
decl_count e (decl.Object line def capacity) = either_count (nat_lt e.next numbers_end) _ _ e.blocks refl refl
decl_count e decl.Cursor = refl
decl_count e decl.Integer = refl
decl_count e decl.Text = refl

step_count : (others : State → Declared) (x : Declared) (s : Option ℕ) (n : ℕ) → x.spent ≡ s → x.after.blocks ≡ n → (others x.after).after.blocks ≡ x.after.blocks →
    (unless_spent others x).after.blocks ≡ n
step_count others x None n f h k = rw (f, unless_spent) (k ∙ h)
step_count others x (Some line) n f h k = rw (f, unless_spent) h

pub decls_count : (ds : List ResolvedDecl) (e : State) → (after_decls ds e).after.blocks ≡ e.blocks
decls_count [] e = refl
decls_count (d ∷ ds) e =
    let x = after_decl e d in step_count (after_decls ds) x x.spent e.blocks refl (decl_count e d) (decls_count ds x.after)

-- Commands, and ends of blocks that view an object

key_end_count : (line object : ℕ) (e : State) (at : Mark) (copy : Value) (found : Option Held) → (key_end_on line object e at copy found).after.blocks ≡ e.blocks
key_end_count line object e at copy None = refl
key_end_count line object e at copy (Some h) = refl

ended_count : (line : ℕ) (key : ViewKey) (guards : Guards) (e : State) → (key_ending line key guards None e).after.blocks ≡ e.blocks
ended_count line (keys.View view) guards e = refl
ended_count line (keys.Update update) guards e =
    let left = leaving update.names e in
    key_end_count line update.object left (plain_mark update.at) _ (object_at (under (guards_of_open_update update ++ guards) left) update.object)

module _ {K : Type 0} (held : K → Option (List ℕ)) (faults : K → ℕ) (room : K → Option ℕ) (counts : K → Bool) where
  pub commanded_blocks : {old : World} {a b : K} {result : Result End HostEnd} (new : World) (simple : ResolvedSimple) (guards : Guards) (e : State) → IsUnder old guards e →
      Ran held faults room counts a b new guards (commanded guards e simple) result → OnOk result (SameCount old new)
  commanded_blocks {result = result} new simple guards e u ran =
      on_ok_weaker result
      (λ is. ap (λ (s : State). s.blocks) is ∙ ((command_stays (under guards e) simple).blocks ∙ ap (λ (s : State). s.blocks) (sym u.is))) ran.after

  pub ending_blocks : {old : World} {a b : K} {result : Result End HostEnd} (new : World) (line : ℕ) (key : ViewKey) (guards : Guards) (e : State) →
      IsUnder old (guards_of_view_key key ++ guards) e →
      Ran held faults room counts a b new guards (key_ending line key guards None e) result → OnOk result (SameCount old new)
  ending_blocks {result = result} new line key guards e u ran =
      on_ok_weaker result
      (λ is. ap (λ (s : State). s.blocks) is ∙ (ended_count line key guards e ∙ ap (λ (s : State). s.blocks) (sym u.is))) ran.after
