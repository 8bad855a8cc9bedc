-- The readers of what begins a block are exact.
use Rattle.std.proofs.Common.{◌≡◌, ℕ, Bool, true, false, List, [], ◌∷◌, ◌++◌, refl, ap, ◌∙◌, inl, inr, Option, Some, None, codes, if◌then◌else◌}
use Rattle.std.proofs.lemmas.Option.{none-some}
use Rattle.ac_syntax.specs.Code.{Head, loop_at, view_at, stable_at, declare_at, tasks_at, task_at}
use Rattle.ac_syntax.specs.declared.view_kind.ViewKind.{ViewKind}
use Rattle.ac_syntax.specs.declared.view_kind.ViewKind.TheVariants as view
use Rattle.ac_syntax.specs.declared.token.Token.TheVariants.{Word}
use Rattle.ac_syntax.specs.Parts.{Part, says, names, place_parts}
use Rattle.ac_syntax.specs.Grammar.{reserved, is_reserved}
use Rattle.ac_script.specs.declared.head.Lead.{Lead}
use Rattle.ac_script.specs.declared.head.Lead.TheVariants as lead
use Rattle.ac_script.specs.Readers.{as_word, as_word_of}
use Rattle.ac_script.specs.Heads.{other_lead, lead_of, elements_of, elements, object_loop, loop_end, loop_head, place_end, view_head, key_head, reference_head, stable_head, head, task_head}
use Rattle.ac_script.proofs.Cases.{either_by, pair_by, bool_by, option_by}
use Rattle.ac_script.proofs.Exact.{Exact, seq, give, mapped, recast}
use Rattle.ac_script.proofs.Forks.{Looks, single, forked}
use Rattle.ac_script.proofs.Looked.{word_looks, name_looks, pick_looks, pick_step, word_apart, name_apart, free_word}

abbrev pub lead_word : Lead → List ℕ
lead_word lead.For = codes "for"
lead_word lead.Query = codes "query"
lead_word lead.Update = codes "update"
lead_word lead.UpdateKey = codes "update_key"
lead_word lead.Reference = codes "reference"
lead_word lead.Stable = codes "stable"
lead_word lead.Declare = codes "declare"
lead_word lead.Tasks = codes "tasks"

other_picked : (w : List ℕ) (a : Lead) → other_lead w ≡ Some a → w ≡ lead_word a
unfolding other_lead
other_picked w a e =
    let P = w ≡ lead_word a in
    pick_step P w (codes "reference") lead.Reference a _ e (λ same is. same ∙ ap lead_word is) (λ e.
    pick_step P w (codes "stable") lead.Stable a _ e (λ same is. same ∙ ap lead_word is) (λ e.
    pick_step P w (codes "declare") lead.Declare a _ e (λ same is. same ∙ ap lead_word is) (λ e.
    pick_step P w (codes "tasks") lead.Tasks a _ e (λ same is. same ∙ ap lead_word is) (λ e. absurd (none-some a e)))))

pub lead_picked : (w : List ℕ) (a : Lead) → lead_of w ≡ Some a → w ≡ lead_word a
unfolding lead_of
lead_picked w a e =
    let P = w ≡ lead_word a in
    pick_step P w (codes "for") lead.For a _ e (λ same is. same ∙ ap lead_word is) (λ e.
    pick_step P w (codes "query") lead.Query a _ e (λ same is. same ∙ ap lead_word is) (λ e.
    pick_step P w (codes "update") lead.Update a _ e (λ same is. same ∙ ap lead_word is) (λ e.
    pick_step P w (codes "update_key") lead.UpdateKey a _ e (λ same is. same ∙ ap lead_word is) (λ e. other_picked w a e))))

lead_again : (a : Lead) → lead_of (lead_word a) ≡ Some a
unfolding lead_of other_lead
lead_again lead.For = refl
lead_again lead.Query = refl
lead_again lead.Update = refl
lead_again lead.UpdateKey = refl
lead_again lead.Reference = refl
lead_again lead.Stable = refl
lead_again lead.Declare = refl
lead_again lead.Tasks = refl

pub lead_looks : Looks (λ (l : Lead). l) (λ l. says (lead_word l)) (as_word_of lead_of)
lead_looks = pick_looks lead_picked lead_again lead.For

abbrev elements_word : Bool → List ℕ
elements_word elements = if elements then codes "of" else codes "in"

elements_picked : (w : List ℕ) (a : Bool) → elements_of w ≡ Some a → w ≡ elements_word a
elements_picked w a e =
    let P = w ≡ elements_word a in
    pick_step P w (codes "of") true a _ e (λ same is. same ∙ ap elements_word is) (λ e.
    pick_step P w (codes "in") false a _ e (λ same is. same ∙ ap elements_word is) (λ e. absurd (none-some a e)))

elements_again : (a : Bool) → elements_of (elements_word a) ≡ Some a
elements_again true = refl
elements_again false = refl

elements_exact : Exact (λ (e : Bool). e) (λ e. says (elements_word e) ∷ []) elements
elements_exact = single (pick_looks elements_picked elements_again true)

object_loop_exact : (backward : Bool) → Exact (λ (object : List ℕ). (backward, object)) (λ object. names object ∷ says (codes "loop") ∷ []) (object_loop backward)
unfolding object_loop
object_loop_exact backward =
    recast (seq (single name_looks) (λ object. mapped (single (word_looks (codes "loop"))) (λ _. (backward, object))))
    (λ i. (i.0, refl, refl)) (λ object. ((object, tt), refl, refl))

not_reverse : (v : List ℕ) → is_reserved v ≡ false → as_word (codes "reverse") (Word v) ≡ None
unfolding reserved is_reserved
not_reverse v free = free_word v (codes "reverse") refl free

loop_end_exact : Exact (λ (l : Bool × List ℕ). l) (λ l. (if l.0 then says (codes "reverse") ∷ [] else []) ++ names l.1 ∷ says (codes "loop") ∷ []) loop_end
unfolding loop_end
loop_end_exact =
    recast (forked (word_looks (codes "reverse")) (λ _. object_loop_exact true) (object_loop_exact false) (λ object. name_apart (as_word (codes "reverse")) object _ (not_reverse object)))
    (either_by _ (λ i. ((true, i.1), refl, refl)) (λ object. ((false, object), refl, refl)))
    (pair_by _ (bool_by _ (λ object. (inl (tt, object), refl, refl)) (λ object. (inr object, refl, refl))))

place_end_exact : (last : List ℕ) → as_word (codes "at") (Word last) ≡ None → Exact (λ (c : Option (List ℕ)). c) (λ c. place_parts c ++ says last ∷ []) (place_end last)
unfolding place_end
place_end_exact last apart =
    recast (forked (word_looks (codes "at")) (λ _. seq (single name_looks) (λ c. mapped (single (word_looks last)) (λ _. Some c))) (mapped (single (word_looks last)) (λ _. None))
    (λ _. word_apart (as_word (codes "at")) last [] apart))
    (either_by _ (λ i. (Some i.1.0, refl, refl)) (λ _. (None, refl, refl)))
    (option_by _ (inr tt, refl, refl) (λ c. (inl (tt, (c, tt)), refl, refl)))

-- what is told behind the first word of a block
abbrev pub Told : Lead → Type 0
Told lead.For = List ℕ × Bool × Bool × List ℕ
Told lead.Query = List ℕ × Option (List ℕ) × List ℕ
Told lead.Update = List ℕ × Option (List ℕ) × List ℕ
Told lead.UpdateKey = List ℕ × List ℕ × List ℕ
Told lead.Reference = List ℕ × List ℕ × Option (List ℕ)
Told lead.Stable = List ℕ
Told lead.Declare = Unit {0}
Told lead.Tasks = Unit {0}

abbrev pub told_head : ℕ → (l : Lead) → Told l → Head
told_head line lead.For t = loop_at line t.0 t.1 t.2 t.3
told_head line lead.Query t = view_at line view.Query t.0 t.1 t.2
told_head line lead.Update t = view_at line view.Update t.0 t.1 t.2
told_head line lead.UpdateKey t = view_at line view.UpdateKey t.0 (Some t.1) t.2
told_head line lead.Reference t = view_at line view.Reference t.1 t.2 t.0
told_head line lead.Stable t = stable_at line t
told_head line lead.Declare t = declare_at line []
told_head line lead.Tasks t = tasks_at line

abbrev pub told_parts : (l : Lead) → Told l → List Part
told_parts lead.For t = names t.0 ∷ says (elements_word t.1) ∷ ((if t.2 then says (codes "reverse") ∷ [] else []) ++ names t.3 ∷ says (codes "loop") ∷ [])
told_parts lead.Query t = names t.0 ∷ ((place_parts t.1 ++ says (codes "as") ∷ []) ++ names t.2 ∷ says (codes "do") ∷ [])
told_parts lead.Update t = names t.0 ∷ ((place_parts t.1 ++ says (codes "as") ∷ []) ++ names t.2 ∷ says (codes "do") ∷ [])
told_parts lead.UpdateKey t = names t.0 ∷ says (codes "at") ∷ names t.1 ∷ says (codes "as") ∷ names t.2 ∷ says (codes "do") ∷ []
told_parts lead.Reference t = names t.0 ∷ says (codes "of") ∷ names t.1 ∷ (place_parts t.2 ++ says (codes "do") ∷ [])
told_parts lead.Stable t = names t ∷ says (codes "do") ∷ []
told_parts lead.Declare t = []
told_parts lead.Tasks t = []

loop_head_exact : (line : ℕ) → Exact (told_head line lead.For) (told_parts lead.For) (loop_head line)
unfolding loop_head
loop_head_exact line =
    recast (seq (single name_looks) (λ n. seq elements_exact (λ e. mapped loop_end_exact (λ r. loop_at line n e r.0 r.1))))
    (λ i. ((i.0, i.1.0, i.1.1.0, i.1.1.1), refl, refl)) (λ t. ((t.0, (t.1, (t.2, t.3))), refl, refl))

view_head_exact : (kind : ViewKind) (line : ℕ) → Exact (λ (t : Told lead.Query). view_at line kind t.0 t.1 t.2) (told_parts lead.Query) (view_head kind line)
unfolding view_head
view_head_exact kind line =
    recast (seq (single name_looks) (λ object. seq (place_end_exact (codes "as") refl) (λ place. seq (single name_looks) (λ n. mapped (single (word_looks (codes "do"))) (λ _. view_at line kind object place n)))))
    (λ i. ((i.0, i.1.0, i.1.1.0), refl, refl)) (λ t. ((t.0, (t.1, (t.2, tt))), refl, refl))

key_head_exact : (line : ℕ) → Exact (told_head line lead.UpdateKey) (told_parts lead.UpdateKey) (key_head line)
unfolding key_head
key_head_exact line =
    recast (seq (single name_looks) (λ object. seq (single (word_looks (codes "at"))) (λ _. seq (single name_looks) (λ c. seq (single (word_looks (codes "as"))) (λ _. seq (single name_looks)
    (λ n. mapped (single (word_looks (codes "do"))) (λ _. view_at line view.UpdateKey object (Some c) n)))))))
    (λ i. ((i.0, i.1.1.0, i.1.1.1.1.0), refl, refl)) (λ t. ((t.0, (tt, (t.1, (tt, (t.2, tt))))), refl, refl))

reference_head_exact : (line : ℕ) → Exact (told_head line lead.Reference) (told_parts lead.Reference) (reference_head line)
unfolding reference_head
reference_head_exact line =
    recast (seq (single name_looks) (λ n. seq (single (word_looks (codes "of"))) (λ _. seq (single name_looks) (λ object. mapped (place_end_exact (codes "do") refl) (λ place. view_at line view.Reference object place n)))))
    (λ i. ((i.0, i.1.1.0, i.1.1.1), refl, refl)) (λ t. ((t.0, (tt, (t.1, t.2))), refl, refl))

stable_head_exact : (line : ℕ) → Exact (told_head line lead.Stable) (told_parts lead.Stable) (stable_head line)
unfolding stable_head
stable_head_exact line =
    recast (seq (single name_looks) (λ object. mapped (single (word_looks (codes "do"))) (λ _. stable_at line object)))
    (λ i. (i.0, refl, refl)) (λ t. ((t, tt), refl, refl))

pub head_exact : (line : ℕ) (l : Lead) → Exact (told_head line l) (told_parts l) (head l line)
head_exact line lead.For = loop_head_exact line
head_exact line lead.Query = view_head_exact view.Query line
head_exact line lead.Update = view_head_exact view.Update line
head_exact line lead.UpdateKey = key_head_exact line
head_exact line lead.Reference = reference_head_exact line
head_exact line lead.Stable = stable_head_exact line
head_exact line lead.Declare = give (declare_at line [])
head_exact line lead.Tasks = give (tasks_at line)

pub task_head_exact : (line : ℕ) → Exact (λ (n : List ℕ). task_at line n []) (λ n. names n ∷ says (codes "is") ∷ []) (task_head line)
unfolding task_head
task_head_exact line =
    recast (seq (single name_looks) (λ n. mapped (single (word_looks (codes "is"))) (λ _. task_at line n [])))
    (λ i. (i.0, refl, refl)) (λ n. ((n, tt), refl, refl))
