-- Where the text's first LF stands from a place on is `line_end`.
use Rattle.std.proofs.Common.{ℕ, ◌+◌, ◌<◌, ◌≤◌, ◌≡◌, ◌∙◌, List, length, drop, sym, ap, subst, arith}
use Rattle.std.specs.List.{prefix_len}
use Rattle.ac_top.proofs.LinePlaces.{not_lf, line_end, line_end_within, starts_behind, no_start_between}
use Rattle.ac_top.specs.LineCuts.{IsLineStart}
use Rattle.ac_top.proofs.line_cut.next_line.Goals as goal

end_is : (text rest : List ℕ) (at len : ℕ) → len ≡ prefix_len not_lf rest → rest ≡ drop at text → line_end text at ≡ at + len
end_is text rest at len counted is = ap (λ n. at + n) (sym (counted ∙ ap (prefix_len not_lf) is))

within : (text rest : List ℕ) (at len : ℕ) → at < length text → len ≡ prefix_len not_lf rest → rest ≡ drop at text → at + len ≤ length text
within text rest at len inside counted is =
    subst (λ end. end ≤ length text) (end_is text rest at len counted is) (line_end_within text at (omega (arith, inside)))

starts : (text rest : List ℕ) (at len : ℕ) → at < length text → len ≡ prefix_len not_lf rest → rest ≡ drop at text →
    at + len < length text → IsLineStart text (at + len + 1)
starts text rest at len inside counted is before_end =
    let end = end_is text rest at len counted is in
    subst (λ end. IsLineStart text (end + 1)) end (starts_behind text at (omega (arith, inside)) (omega (arith, before_end, end)))

between : (text rest : List ℕ) (at len : ℕ) → len ≡ prefix_len not_lf rest → rest ≡ drop at text →
    (place : ℕ) → at < place → place < at + len + 1 → IsLineStart text place → ⊥
between text rest at len counted is place later below =
    no_start_between text at place later (omega (arith, below, end_is text rest at len counted is))

pub returns-then-end-text-clause-starts : goal.returns-then-end-text-clause-starts
returns-then-end-text-clause-starts c later = starts c.args.text.now _ c.args.at _ c.requires c.line_len.ensures.len c.split_at.ensures.back c.if-end-text.true

pub returns-then-end-text-clause-between : goal.returns-then-end-text-clause-between
returns-then-end-text-clause-between c = between c.args.text.now _ c.args.at _ c.line_len.ensures.len c.split_at.ensures.back

pub returns-else-end-text-clause-within : goal.returns-else-end-text-clause-within
returns-else-end-text-clause-within c = within c.args.text.now _ c.args.at _ c.requires c.line_len.ensures.len c.split_at.ensures.back

pub returns-else-end-text-clause-between : goal.returns-else-end-text-clause-between
returns-else-end-text-clause-between c place later below =
    between c.args.text.now _ c.args.at _ c.line_len.ensures.len c.split_at.ensures.back place later (omega (arith, below))
