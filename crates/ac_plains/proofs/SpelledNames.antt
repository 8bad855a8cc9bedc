-- The names that a script declares are identifiers, since its tokens are words within the limits and those of names aren't reserved.
use Rattle.std.proofs.Common.{◌≡◌, ℕ, Bool, true, false, not, ◌&&◌, List, [], ◌∷◌, ◌++◌, map, length, refl, sym, ap, subst, ◌∙◌, nat_lt, arith}
use Rattle.std.specs.Prelude.{nat_le, Option, Some, None}
use Rattle.std.specs.List.{list_all}
use Rattle.std.proofs.lemmas.Bool.{and_from, and_parts, or_parts, not_from_false}
use Rattle.std.proofs.lemmas.Bool.Decides.{nat_tests}
use Rattle.std.proofs.lemmas.List.{map-append}
use Rattle.std.proofs.lemmas.List.Folds.{list_all-append}
use Rattle.ac_syntax.specs.Canonical.{is_lower_word, is_written}
use Rattle.ac_syntax.specs.Grammar.{is_reserved, IsPart, AreParts, AreItems}
use Rattle.ac_syntax.specs.Items.{Item, declares, items, pragma_items}
use Rattle.ac_syntax.specs.Keywords.{begins_propagating, script_cut}
use Rattle.ac_syntax.specs.Limits.{Seen, seen_of, is_one_too_many, is_past_limit}
use Rattle.ac_syntax.specs.Parts.{names, decl_parts, item_parts}
use Rattle.ac_syntax.specs.Refusals.{Spells}
use Rattle.ac_syntax.specs.Tokens.{tokens, cut_of}
use Rattle.ac_syntax.specs.declared.decl.Decl.{Decl}
use Rattle.ac_syntax.specs.declared.decl.Decl.TheVariants.{TypeDecl, Object, CursorVar, IntVar, TextVar}
use Rattle.ac_syntax.specs.declared.script.Script.{Script}
use Rattle.ac_syntax.specs.declared.token.Placed.{Placed}
use Rattle.ac_syntax.specs.declared.token.Token.{Token}
use Rattle.ac_syntax.specs.declared.token.Token.TheVariants as token
use Rattle.ac_syntax.proofs.CutTokens.{script_tidy}
use Rattle.ac_rules.specs.Faults.{decl_name}
use Rattle.ac_snapshot.specs.Validity.{is_name}

-- a word that can be written, of at most 64 bytes
abbrev is_short : Token → Bool
is_short (token.Word word) = nat_le (length word) 64
is_short (token.Keyword _) = true
is_short (token.Number _) = true
is_short (token.Text _) = true
is_short (token.Mark _) = true

not_longer : (n : ℕ) → nat_lt 64 n ≡ false → nat_le n 64 ≡ true
not_longer n h = grind (arith, nat_tests)

short_within : (seen : Seen) (t : Token) → is_past_limit seen t ≡ false → is_short t ≡ true
short_within seen (token.Word word) h =
    not_longer (length word) (or_parts (nat_lt 64 (length word)) (is_one_too_many seen (token.Word word)) h).0
short_within seen (token.Keyword _) h = refl
short_within seen (token.Number _) h = refl
short_within seen (token.Text _) h = refl
short_within seen (token.Mark _) h = refl

-- what holds wherever a list is cut holds of all
each_passes : (p : Token → Bool) (all : List Token) → ((before after : List Token) (t : Token) → all ≡ before ++ t ∷ after → p t ≡ true) → list_all p all ≡ true
each_passes p [] h = refl
each_passes p (t ∷ all) h =
    and_from (p t) (list_all p all) (h [] all t refl)
    (each_passes p all (λ before after u split. h (t ∷ before) after u (ap (λ (l : List Token). t ∷ l) split)))

module _ (mode : Bool) where
  abbrev is_sound : Token → Bool
  is_sound t = is_written mode t && is_short t

  both_sound : (all : List Token) → list_all (is_written mode) all ≡ true → list_all is_short all ≡ true → list_all is_sound all ≡ true
  both_sound [] w s = refl
  both_sound (t ∷ all) w s =
      let written = and_parts (is_written mode t) (list_all (is_written mode) all) w in
      let short = and_parts (is_short t) (list_all is_short all) s in
      and_from (is_sound t) (list_all is_sound all) (and_from (is_written mode t) (is_short t) written.0 short.0) (both_sound all written.1 short.1)

  fronts : (xs ys all : List Token) → all ≡ xs ++ ys → list_all is_sound all ≡ true → (list_all is_sound xs ≡ true) × (list_all is_sound ys ≡ true)
  fronts xs ys all split h =
      and_parts (list_all is_sound xs) (list_all is_sound ys) (sym (list_all-append is_sound xs ys) ∙ ap (list_all is_sound) (sym split) ∙ h)

  word_is_name : (word : List ℕ) → is_reserved word ≡ false → is_sound (token.Word word) ≡ true → is_name word ≡ true
  word_is_name word free h =
      let both = and_parts (is_written mode (token.Word word)) (is_short (token.Word word)) h in
      and_from (is_lower_word word) (nat_le (length word) 64 && not (is_reserved word)) (and_parts _ _ both.0).0
      (and_from (nat_le (length word) 64) (not (is_reserved word)) both.1 (not_from_false (is_reserved word) free))

  -- of the tokens before the rest, which are a name's
  part_is_name : (word : List ℕ) (spelled front rest : List Token) → spelled ≡ front ++ rest → IsPart (names word) front → list_all is_sound spelled ≡ true →
      is_name word ≡ true
  part_is_name word spelled front rest split h s =
      let one : list_all is_sound (token.Word word ∷ []) ≡ true = subst (λ ts. list_all is_sound ts ≡ true) h.1 (fronts front rest spelled split s).0 in
      word_is_name word h.0 (and_parts (is_sound (token.Word word)) true one).0

  decl_is_named : (d : Decl) (spelled : List Token) → AreParts (decl_parts d) spelled → list_all is_sound spelled ≡ true → is_name (decl_name d) ≡ true
  decl_is_named (TypeDecl line name def) spelled h s =
      part_is_name name h.1 h.4.0 h.4.1 h.4.2 h.4.3 (fronts h.0 h.1 spelled h.2 s).1
  decl_is_named (Object line name of capacity) spelled h s = part_is_name name spelled h.0 h.1 h.2 h.3 s
  decl_is_named (CursorVar line name of) spelled h s = part_is_name name spelled h.0 h.1 h.2 h.3 s
  decl_is_named (IntVar line name) spelled h s = part_is_name name spelled h.0 h.1 h.2 h.3 s
  decl_is_named (TextVar line name) spelled h s = part_is_name name spelled h.0 h.1 h.2 h.3 s

  item_is_named : (d : Decl) (spelled : List Token) → AreParts (item_parts (declares d)) spelled → list_all is_sound spelled ≡ true → is_name (decl_name d) ≡ true
  unfolding item_parts
  item_is_named d spelled h s = decl_is_named d spelled h s

  placed_fronts : (xs ys all : List Placed) → all ≡ xs ++ ys → list_all is_sound (tokens all) ≡ true →
      (list_all is_sound (tokens xs) ≡ true) × (list_all is_sound (tokens ys) ≡ true)
  placed_fronts xs ys all split h =
      fronts (tokens xs) (tokens ys) (tokens all) (ap tokens split ∙ map-append (λ (p : Placed). p.token) xs ys) h

  decls_are_named : (decls : List Decl) (more : List Item) (placed : List Placed) → AreItems (map declares decls ++ more) placed →
      list_all is_sound (tokens placed) ≡ true → list_all is_name (map decl_name decls) ≡ true
  decls_are_named [] more placed h s = refl
  decls_are_named (d ∷ decls) more placed h s =
      let parts = placed_fronts h.0 h.1 placed h.2 s in
      and_from (is_name (decl_name d)) (list_all is_name (map decl_name decls)) (item_is_named d (tokens h.0) h.3.spelled parts.0)
      (decls_are_named decls more h.1 h.4 parts.1)

  behind_pragma : (pragma : Option ℕ) (decls : List Decl) (more : List Item) (placed : List Placed) →
      AreItems (pragma_items pragma ++ (map declares decls ++ more)) placed → list_all is_sound (tokens placed) ≡ true →
      list_all is_name (map decl_name decls) ≡ true
  behind_pragma None decls more placed h s = decls_are_named decls more placed h s
  behind_pragma (Some line) decls more placed h s = decls_are_named decls more h.1 h.4 (placed_fronts h.0 h.1 placed h.2 s).1

pub names_spelled : (script : Script) (text : List ℕ) → Spells script text → list_all is_name (map decl_name script.decls) ≡ true
names_spelled script text h =
    let mode = begins_propagating (cut_of text).placed in
    let all = tokens (script_cut text).placed in
    let short = each_passes is_short all (λ before after t split. short_within (seen_of before) t (h.within before after t split)) in
    behind_pragma mode script.pragma script.decls (items script.stmts) (script_cut text).placed h.derives.are
    (both_sound mode all (script_tidy text).written short)
