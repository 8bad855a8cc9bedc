-- How far tokens keep the limits, one token more at a time.
use Rattle.std.proofs.Common.{◌≡◌, ◌+◌, ◌-◌, ◌<◌, ◌≤◌, ℕ, suc, Bool, true, false, cond, List, [], ◌∷◌, ◌++◌, take, length, refl, ap, ◌∙◌, arith, get_or, inl, inr}
use Rattle.std.specs.Prelude.{◌⊎◌, ◌&&◌, not}
use Rattle.std.proofs.lemmas.List.{map-append}
use Rattle.std.proofs.lemmas.List.Sums.{fold-append}
use Rattle.std.proofs.Math.Seq.{take-suc}
use Rattle.ac_syntax.specs.declared.token.Token.{Token}
use Rattle.ac_syntax.specs.declared.token.Placed.{Placed}
use Rattle.ac_syntax.specs.Tokens.{tokens}
use Rattle.ac_syntax.specs.Limits.{Seen, none_seen, seen_after, seen_of, is_open, begins_block, begins_command, depth_after, tasks_after, commands_after, is_word_of, end_words, tasks_words, task_words, is_past_limit, AreWithinLimits}
use Rattle.ac_syntax.proofs.Withins.{not_ended}

-- a list with one item more is cut at that item, or before it
pub cut_at : {X : Type 0} (done before after : List X) (next x : X) → done ++ next ∷ [] ≡ before ++ x ∷ after
    → ((done ≡ before) × (next ≡ x)) ⊎ ((more : List X) × (done ≡ before ++ x ∷ more))
cut_at [] [] after next x e = inl (refl, cc e)
cut_at [] (b ∷ before) after next x e = let others : [] ≡ before ++ x ∷ after = cc e in absurd (not_ended before after x others)
cut_at (a ∷ done) [] after next x e = let same : a ≡ x = cc e in inr (done, (λ i. same i ∷ done))
cut_at (a ∷ done) (b ∷ before) after next x e =
    let same : a ≡ b = cc e in
    let others : done ++ next ∷ [] ≡ before ++ x ∷ after = cc e in
    elim (cut_at done before after next x others) [
      | inl h ↦ inl ((λ i. same i ∷ h.0 i), h.1)
      | inr h ↦ inr (h.0, (λ i. same i ∷ h.1 i))
    ]

pub one_more : (done : List Token) (next : Token) → AreWithinLimits done → is_past_limit (seen_of done) next ≡ false → AreWithinLimits (done ++ next ∷ [])
one_more done next h past before after token e = elim (cut_at done before after next token e) [
  | inl k ↦ rw (← k.0, ← k.1) past
  | inr k ↦ h before k.0 token k.1
]

pub none_within : AreWithinLimits []
none_within before after token e = absurd (not_ended before after token e)

pub one_more_seen : (done : List Token) (next : Token) → seen_of (done ++ next ∷ []) ≡ seen_after (seen_of done) next
one_more_seen done next = fold-append seen_after none_seen done (next ∷ [])

-- with a token more, each count rises by one at most

rises_by : (up down : Bool) (n : ℕ) → cond up (n + 1) (cond down (n - 1) n) ≤ n + 1
rises_by true down n = omega arith
rises_by false true n = omega arith
rises_by false false n = omega arith

begins_anew : (anew up : Bool) (n : ℕ) → cond anew 0 (cond up (n + 1) n) ≤ n + 1
begins_anew true up n = omega arith
begins_anew false true n = omega arith
begins_anew false false n = omega arith

pub depth_rises : (seen : Seen) (token : Token) → depth_after seen token ≤ seen.depth + 1
depth_rises seen token = rises_by (begins_block seen token) (is_word_of end_words token && not (is_open seen.progress)) seen.depth

pub tasks_rise : (seen : Seen) (token : Token) → tasks_after seen token ≤ seen.tasks + 1
tasks_rise seen token = begins_anew (is_word_of tasks_words token) (is_word_of task_words token) seen.tasks

pub commands_rise : (seen : Seen) (token : Token) → commands_after seen token ≤ seen.commands + 1
commands_rise seen token = begins_anew (is_word_of task_words token) (begins_command seen token) seen.commands

-- the tokens of the first n placed ones and the next
pub taken : (placed : List Placed) (n : ℕ) (d : Placed) → n < length placed → tokens (take (n + 1) placed) ≡ tokens (take n placed) ++ (get_or placed n d).token ∷ []
taken placed n d h =
    let same : n + 1 ≡ suc n = omega arith in
    ap (λ m. tokens (take m placed)) same ∙ ap tokens (take-suc placed n d h) ∙ map-append (λ (p : Placed). p.token) (take n placed) (get_or placed n d ∷ [])
