use Rattle.std.proofs.Common.{Vec, Global, ◌∙◌, ap, ℕ}
use Rattle.ac_script.proofs.Strings.{read_none, kept, quoted, ended, malformed, closed, unclosed}
use Rattle.ac_script.proofs.piece.string_piece.Goals as goal
use Rattle.ac_script.proofs.piece.string_piece.Goals.{in-Keeps+in_ok-push-in-Keeps, in-Quotes, then-after_quote, else-after_quote}

-- src/piece.rt:145:5
pub loop-len-init : goal.loop-len-init
loop-len-init c = rw c.new-value.ensures.items (read_none c.args.text.now)

-- src/piece.rt:149:33
pub returns-in-Ends : goal.returns-in-Ends
returns-in-Ends c = c.string_of.ensures ∙ ended c.args.text.now c.loop-len.value.items c.loop-len.len c.loop-len.after_quote c.string_byte.result c.loop-len-test.true c.loop-len.invariant c.string_byte.ensures c.in-Ends.is

-- src/piece.rt:150:38
pub returns-in-Malformed : goal.returns-in-Malformed
returns-in-Malformed c = malformed c.args.text.now c.loop-len.value.items c.loop-len.len c.loop-len.after_quote c.string_byte.result c.loop-len-test.true c.loop-len.invariant c.string_byte.ensures c.in-Malformed.is

-- src/piece.rt:145:5
pub loop-len-preserved : goal.loop-len-preserved
loop-len-preserved c = elim c.match-string_byte.branch [
  | in-Keeps+in_ok-push-in-Keeps w ↦ kept c.args.text.now c.loop-len.value.items c.match-string_byte.value.items c.loop-len.len c.loop-len.after_quote c.may_end-after_quote.result c.string_byte.result c.loop-len-test.true c.loop-len.invariant c.string_byte.ensures w.in-Keeps.is (ap (λ (v : Vec ℕ Global). v.items) w.value-is ∙ w.in_ok-push-in-Keeps.ensures.items) c.may_end-after_quote.ensures
  | in-Quotes w ↦ quoted c.args.text.now c.loop-len.value.items c.match-string_byte.value.items c.loop-len.len c.loop-len.after_quote c.may_end-after_quote.result c.string_byte.result c.loop-len-test.true c.loop-len.invariant c.string_byte.ensures w.in-Quotes.is (ap (λ (v : Vec ℕ Global). v.items) w.value-is) c.may_end-after_quote.ensures
]

-- src/piece.rt:140:1
pub returns : goal.returns
returns c = elim c.if-after_quote.branch [
  | then-after_quote w ↦ w.result-is ∙ w.string_of-then-after_quote.ensures ∙ closed c.args.text.now c.loop-len.value.items c.loop-len.len c.loop-len.after_quote c.loop-len-test.false c.loop-len.auto.len-end c.loop-len.invariant w.if-after_quote.true
  | else-after_quote w ↦ w.result-is ∙ unclosed c.args.text.now c.loop-len.value.items c.loop-len.len c.loop-len.after_quote c.loop-len-test.false c.loop-len.invariant w.if-after_quote.false
]
