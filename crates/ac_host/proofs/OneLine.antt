-- What is written of a line that is added in pieces.
use Rattle.std.proofs.Common.{◌≡◌, ◌≢◌, ◌-◌, ◌≤◌, ℕ, Bool, false, true≢false, List, [], ◌∷◌, ◌++◌, length, refl, sym, ap, subst, ◌∙◌, Option, Some, None, IfSome, Result, Ok, Err, IsOk, IsErrAnd, codes, decimal, append_assoc, append-nil}
use Rattle.std.proofs.lemmas.Result.{err_from_is_err_and}
use Rattle.ac_base.specs.declared.cursor.Cursor.TheVariants as cursor
use Rattle.ac_io.specs.Pieces.{Adds}
use Rattle.ac_io.proofs.Telling.{adds_broken, written_whole, written_room}
use Rattle.ac_calls.specs.Answers.{Line, Answer, line, line_text, lines_text, answer_text, answers_list}
use Rattle.ac_meaning.specs.Environment.{State}
use Rattle.ac_calls.specs.declared.reply.Said.{Said}
use Rattle.ac_calls.specs.declared.reply.Said.TheVariants.{Done, Value, Truth, Place, Listing, Stalled}
use Rattle.ac_objects.specs.Shown.{Shows}
use Rattle.ac_host.specs.declared.end.HostEnd.{HostEnd}
use Rattle.ac_host.specs.declared.end.HostEnd.TheVariants.{WriteFault, NoMemory}
use Rattle.ac_host.specs.Lines.{is_listing, shown_text}
use Rattle.ac_host.specs.Writing.{Wrote, Broke, Writes}
use Rattle.ac_host.proofs.Telling.{broke_nothing}

pub one_line : (l : Line) → lines_text (l ∷ []) ≡ line_text l
one_line l = append-nil (line_text l)

err_is_not_ok : (T : Type 0) {E : Type 0} (e : E) → IsOk {T = T} {E = E} (Err e) → ⊥
err_is_not_ok T e is = cc is

second_of : (P : Type 0) (most : Option ℕ) (text : List ℕ) (R : ℕ → Type 0) → IfSome most (λ n. length text ≤ n → P × R n) →
    IfSome most (λ n. length text ≤ n → R n)
second_of P None text R f = tt
second_of P (Some n) text R f = λ fits. (f fits).1

never : (P Q : Type 0) (most : Option ℕ) (text : List ℕ) (R : ℕ → Type 0) → (P → ⊥) → IfSome most (λ n. length text ≤ n → P × R n) →
    IfSome most (λ n. length text ≤ n → Q)
never P Q None text R not f = tt
never P Q (Some n) text R not f = λ fits. absurd (not (f fits).0)

module _ {K : Type 0} {held : K → Option (List ℕ)} {faults : K → ℕ} {room : K → Option ℕ} {counts : K → Bool} where
  -- all of it, where nothing waits any more
  pub wrote_added : {T E : Type 0} {a b : K} {waits now text whole : List ℕ} (x : T) → waits ++ text ≡ whole → now ≡ [] →
      Adds {T = T} {E = E} held faults room counts a b waits now text (Ok x) → Wrote held faults room counts a b whole
  wrote_added {T} {E} {a = a} {b = b} {waits = waits} {now = now} {text = text} x same none f =
      subst (Wrote held faults room counts a b) same record {
        grew = written_whole {E = E} (Ok x) none f;
        counted = f.counted;
        within = second_of _ (room a) (waits ++ text) (λ n. room b ≡ Some (n - length (waits ++ text))) (written_room {E = E} (Ok x) none f);
        counts = λ does. let so = f.counts does in (so.0 refl, so.1);
      }

  -- a front of it, before a fault
  pub broke_added : {T E : Type 0} {a b : K} {waits now text whole : List ℕ} (e : E) → waits ++ text ≡ whole →
      Adds {T = T} {E = E} held faults room counts a b waits now text (Err e) → Broke held faults room counts a b whole WriteFault
  broke_added {T} {E} {a = a} {b = b} {waits = waits} {now = now} {text = text} e same f =
      subst (λ t. Broke held faults room counts a b t WriteFault) same record {
        front = f.front;
        rose = λ _. f.fault;
        counted = f.counted;
        within = never _ (WriteFault ≢ WriteFault) (room a) (waits ++ text) _ (err_is_not_ok T e) f.within;
        counts = λ does. (λ no. absurd (no refl), (f.counts does).1);
      }

  -- a piece of it that isn't told whole, with more behind it
  pub broke_before_end : {T E : Type 0} {a b : K} {waits now text whole : List ℕ} (e : E) (more : List ℕ) → waits ++ (text ++ more) ≡ whole →
      Adds {T = T} {E = E} held faults room counts a b waits now text (Err e) → Broke held faults room counts a b whole WriteFault
  broke_before_end {T} {E} {now = now} e more same f =
      broke_added {T = T} WriteFault same (adds_broken {T = T} {E = HostEnd} {now' = now} {r = Err WriteFault} refl more f)

-- what the exit of a `?` returns
module _ {K T : Type 0} (held : K → Option (List ℕ)) (faults : K → ℕ) (room : K → Option ℕ) (counts : K → Bool) (result : Result T HostEnd) where
  pub leaves_broken : {a b : K} {whole : List ℕ} {end : HostEnd} → IsErrAnd result (λ made. made ≡ end) → Broke held faults room counts a b whole end →
      Writes held faults room counts a b whole result
  leaves_broken {a} {b} {whole} exit f =
      let made = err_from_is_err_and result exit in
      subst (Writes held faults room counts a b whole) (sym (made.1 ∙ ap Err made.2)) f

  -- without memory nothing is written
  pub leaves_nothing : (a : K) (whole : List ℕ) → IsErrAnd result (λ made. made ≡ NoMemory) → Writes held faults room counts a a whole result
  leaves_nothing a whole exit = leaves_broken exit (broke_nothing held faults room counts a whole)

-- the line of a listing, by its pieces
pub listed_line : (number : ℕ) (text begun : List ℕ) → begun ≡ decimal number ++ codes ": " →
    begun ++ (text ++ 10 ∷ []) ≡ lines_text (line number (answers_list text) ∷ [])
listed_line number text begun is =
    ap (λ t. t ++ (text ++ 10 ∷ [])) is
    ∙ (append_assoc (decimal number) (codes ": ") (text ++ 10 ∷ []) ∙ sym (one_line (line number (answers_list text))))

-- the line of any other answer

shown_is : (e : State) (object : ℕ) (said : Said) (answered : Answer) → is_listing said ≡ false → Shows e object said answered →
    shown_text said ≡ answer_text answered
shown_is e object Done answered short s = rw s refl
shown_is e object (Value v) answered short s = rw s refl
shown_is e object (Truth is_true) answered short s = rw s refl
shown_is e object (Place cursor.NoElement) answered short s = rw s refl
shown_is e object (Place (cursor.At it name)) answered short s = rw s refl
shown_is e object Listing answered short s = absurd (true≢false short)
shown_is e object Stalled answered short s = rw s refl

pub shown_line : (number : ℕ) (e : State) (object : ℕ) (said : Said) (answered : Answer) → is_listing said ≡ false → Shows e object said answered →
    decimal number ++ (codes ": " ++ (shown_text said ++ 10 ∷ [])) ≡ lines_text (line number answered ∷ [])
shown_line number e object said answered short s =
    ap (λ t. decimal number ++ (codes ": " ++ (t ++ 10 ∷ []))) (shown_is e object said answered short s) ∙ sym (one_line (line number answered))
