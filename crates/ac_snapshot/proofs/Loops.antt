-- What was read so far, before what the rest is read as.
use Rattle.std.proofs.Common.{◌≡◌, ℕ, suc, List, [], ◌∷◌, ◌++◌, refl, sym, ap, ◌∙◌, append_assoc, append-nil, Some, None}
use Rattle.ac_syntax.specs.declared.type_def.TypeDef.{TypeDef}
use Rattle.ac_calls.specs.declared.plains.PlainRow.{PlainRow}
use Rattle.ac_snapshot.specs.RowValidity.{is_tree}
use Rattle.ac_snapshot.specs.Outcomes.{Outcome, got, stuck, Reader, gives, onward, behind}
use Rattle.ac_snapshot.specs.ValueReaders.{string_byte, before_more, string_by}
use Rattle.ac_snapshot.specs.RowReaders.{depth_at, row, behind_row, before_rows, rows_by}

put_behind : {A : Type 0} (made : List A) (a : A) (o : Outcome (List A)) → behind made (onward o (λ more. gives (a ∷ more))) ≡ behind (made ++ a ∷ []) o
put_behind made a (got more rest) = ap (λ all. got all rest) (sym (append_assoc made (a ∷ []) more))
put_behind made a stuck = refl

-- a string, of which `read` is what all of it is read as

pub byte_kept : (read : Outcome (List ℕ)) (n m : ℕ) (made left rest : List ℕ) (b : ℕ) → n ≡ suc m → read ≡ behind made (string_by n left) → string_byte left ≡ got (Some b) rest
    → read ≡ behind (made ++ b ∷ []) (string_by m rest)
unfolding string_by
byte_kept read n m made left rest b more is step =
    is ∙ ap (λ n. behind made (string_by n left)) more ∙ ap (λ o. behind made (onward o (before_more (string_by m)))) step ∙ put_behind made b (string_by m rest)

pub string_ended : (read : Outcome (List ℕ)) (n m : ℕ) (made left rest : List ℕ) → n ≡ suc m → read ≡ behind made (string_by n left) → string_byte left ≡ got None rest → read ≡ got made rest
unfolding string_by
string_ended read n m made left rest more is step =
    is ∙ ap (λ n. behind made (string_by n left)) more ∙ ap (λ o. behind made (onward o (before_more (string_by m)))) step ∙ ap (λ all. got all rest) (append-nil made)

pub byte_failed : (read : Outcome (List ℕ)) (n m : ℕ) (made left : List ℕ) → n ≡ suc m → read ≡ behind made (string_by n left) → string_byte left ≡ stuck → read ≡ stuck
unfolding string_by
byte_failed read n m made left more is step =
    is ∙ ap (λ n. behind made (string_by n left)) more ∙ ap (λ o. behind made (onward o (before_more (string_by m)))) step

pub string_over : (read : Outcome (List ℕ)) (n : ℕ) (made left : List ℕ) → n ≡ 0 → read ≡ behind made (string_by n left) → read ≡ stuck
unfolding string_by
string_over read n made left none is = is ∙ ap (λ n. behind made (string_by n left)) none

-- rows, the same

abbrev row_step : ℕ → TypeDef → ℕ → PlainRow → Reader (List PlainRow)
row_step m def level r t = onward (behind_row (is_tree def.kind) level t) (before_rows (rows_by m def) r)

row_taken : (read : Outcome (List PlainRow)) (n m : ℕ) (def : TypeDef) (level : ℕ) (made : List PlainRow) (left : List ℕ) → n ≡ suc m
    → read ≡ behind made (rows_by n def level left) → read ≡ behind made (onward (row def (depth_at def level) left) (row_step m def level))
unfolding rows_by
row_taken read n m def level made left more is = is ∙ ap (λ n. behind made (rows_by n def level left)) more

pub row_kept : (read : Outcome (List PlainRow)) (n m : ℕ) (def : TypeDef) (level next : ℕ) (made : List PlainRow) (left mid rest : List ℕ) (r : PlainRow) → n ≡ suc m
    → read ≡ behind made (rows_by n def level left) → row def (depth_at def level) left ≡ got r mid → behind_row (is_tree def.kind) level mid ≡ got (Some next) rest
    → read ≡ behind (made ++ r ∷ []) (rows_by m def next rest)
row_kept read n m def level next made left mid rest r more is one two =
    row_taken read n m def level made left more is ∙ ap (λ o. behind made (onward o (row_step m def level))) one
    ∙ ap (λ o. behind made (onward o (before_rows (rows_by m def) r))) two ∙ put_behind made r (rows_by m def next rest)

pub rows_ended : (read : Outcome (List PlainRow)) (n m : ℕ) (def : TypeDef) (level : ℕ) (made : List PlainRow) (left mid rest : List ℕ) (r : PlainRow) → n ≡ suc m
    → read ≡ behind made (rows_by n def level left) → row def (depth_at def level) left ≡ got r mid → behind_row (is_tree def.kind) level mid ≡ got None rest
    → read ≡ got (made ++ r ∷ []) rest
rows_ended read n m def level made left mid rest r more is one two =
    row_taken read n m def level made left more is ∙ ap (λ o. behind made (onward o (row_step m def level))) one
    ∙ ap (λ o. behind made (onward o (before_rows (rows_by m def) r))) two

pub row_unread : (read : Outcome (List PlainRow)) (n m : ℕ) (def : TypeDef) (level : ℕ) (made : List PlainRow) (left : List ℕ) → n ≡ suc m
    → read ≡ behind made (rows_by n def level left) → row def (depth_at def level) left ≡ stuck → read ≡ stuck
row_unread read n m def level made left more is one = row_taken read n m def level made left more is ∙ ap (λ o. behind made (onward o (row_step m def level))) one

pub row_failed : (read : Outcome (List PlainRow)) (n m : ℕ) (def : TypeDef) (level : ℕ) (made : List PlainRow) (left mid : List ℕ) (r : PlainRow) → n ≡ suc m
    → read ≡ behind made (rows_by n def level left) → row def (depth_at def level) left ≡ got r mid → behind_row (is_tree def.kind) level mid ≡ stuck → read ≡ stuck
row_failed read n m def level made left mid r more is one two =
    row_taken read n m def level made left more is ∙ ap (λ o. behind made (onward o (row_step m def level))) one
    ∙ ap (λ o. behind made (onward o (before_rows (rows_by m def) r))) two

pub rows_over : (read : Outcome (List PlainRow)) (n : ℕ) (def : TypeDef) (level : ℕ) (made : List PlainRow) (left : List ℕ) → n ≡ 0
    → read ≡ behind made (rows_by n def level left) → read ≡ stuck
unfolding rows_by
rows_over read n def level made left none is = is ∙ ap (λ n. behind made (rows_by n def level left)) none
