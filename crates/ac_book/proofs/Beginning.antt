-- A book before its first turn.
use Rattle.std.proofs.Common.{◌≡◌, ◌+◌, ◌<◌, ◌^◌, ℕ, suc, pos, List, [], ◌∷◌, ◌++◌, map, length, take, drop, get_or, set, Result, Ok, Err, OnOk, OnErr, refl, sym, ap, ◌∙◌, subst, arith, append_assoc}
use Rattle.std.specs.List.{All, sum_by}
use Rattle.std.proofs.lemmas.List.{length-map, length-replicate, map-set, set-get_or, get_or-map}
use Rattle.std.proofs.lemmas.List.Elements.{All-map}
use Rattle.std.proofs.lemmas.List.Sums.{sum_by-cons}
use Rattle.ac_base.specs.declared.fault.NoMemory.{NoMemory}
use Rattle.ac_queue.specs.declared.any_queue.AnyQueue.{AnyQueue}
use Rattle.ac_queue.specs.Kinds.{discipline_of, state_of}
use Rattle.ac_queue.specs.QueueStates.{QueueState, with_spare}
use Rattle.ac_history.specs.declared.code.TaskStep.{TaskStep}
use Rattle.ac_history.specs.declared.code.TaskCode.{TaskCode}
use Rattle.ac_history.specs.declared.entry.Entry.{Entry}
use Rattle.ac_history.specs.Blocks.{commands_in, new_block}
use Rattle.ac_history.specs.States.{TaskState, begun, left, one_each}
use Rattle.ac_model.specs.Queues.{TaskQueue}
use Rattle.ac_history.proofs.Left.{left_begun, all_ones}
use Rattle.ac_book.specs.Books.{IsBook, block_of, CodeFits, TaskFits}
use Rattle.ac_book.specs.Running.{Fits, HaveSpare, added_by}
use Rattle.ac_queue.specs.Shared.{shared}
use Rattle.ac_book.specs.Tasks.{code_of}
use Rattle.ac_book.proofs.Turning.{written_back}

queue_stays : (r : Result (Unit {0}) NoMemory) (old new : QueueState) (n : ℕ) → OnOk r (new ≡ with_spare old n) → OnErr r (new ≡ old) → new.queue ≡ old.queue
queue_stays (Ok x) old new n ok err = ap (λ (s : QueueState). s.queue) ok
queue_stays (Err x) old new n ok err = ap (λ (s : QueueState). s.queue) err

-- a queue with more spare is shared as before
pub shared_stays : (queues : List AnyQueue) (i : ℕ) (d now : AnyQueue) (r : Result (Unit {0}) NoMemory) (n : ℕ) → i < length queues
    → discipline_of now ≡ discipline_of (get_or queues i d) → OnOk r (state_of now ≡ with_spare (state_of (get_or queues i d)) n) → OnErr r (state_of now ≡ state_of (get_or queues i d))
    → map shared (set queues i now) ≡ map shared queues
shared_stays queues i d now r n within kinds ok err =
    let old = get_or queues i d in
    let same : shared now ≡ shared old = λ j. record { discipline = kinds j; queue = (queue_stays r (state_of old) (state_of now) n ok err) j } in
    map-set shared queues i now ∙ ap (set (map shared queues) i) (same ∙ sym (get_or-map shared queues i d (shared old) within)) ∙ set-get_or (map shared queues) i (shared old)

-- one task more has begun
pub one_more : (all made now : List TaskState) (waiting rest : List TaskCode) (x : TaskCode) → all ≡ made ++ map begun waiting → waiting ≡ x ∷ rest → now ≡ made ++ begun x ∷ [] → all ≡ now ++ map begun rest
one_more all made now waiting rest x e f g = e ∙ ap (λ w. made ++ map begun w) f ∙ sym (append_assoc made (begun x ∷ []) (map begun rest)) ∙ ap (λ m. m ++ map begun rest) (sym g)

pub fewer : (P : TaskCode → Type 0) (waiting rest : List TaskCode) (x : TaskCode) → waiting ≡ x ∷ rest → All P waiting → All P rest
fewer P waiting rest x e h = λ k d within. subst (All P) e h (suc k) d (omega (arith, within))

pub first_of : (P : TaskCode → Type 0) (waiting rest : List TaskCode) (x : TaskCode) → waiting ≡ x ∷ rest → All P waiting → P x
first_of P waiting rest x e h = subst (All P) e h 0 x (omega arith)

back : (t : TaskCode) → code_of (begun t) ≡ t
back t = λ j. record { locals = (length-replicate t.locals (pos 0)) j; steps = t.steps }

pub code_back : (code : List TaskCode) → map code_of (map begun code) ≡ code
code_back [] = refl
code_back (t ∷ ts) = λ j. (back t) j ∷ (code_back ts) j

begun_fits : (qs : List TaskQueue) (code : List TaskCode) → All (CodeFits qs) code → All (TaskFits qs) (map begun code)
begun_fits qs code h = All-map (TaskFits qs) begun code (λ k d within. subst (λ n. All (Fits qs n) (get_or code k d).steps) (sym (length-replicate (get_or code k d).locals (pos 0))) (h k d within))

pub begins : (qs : List TaskQueue) (reserved : List AnyQueue) (code : List TaskCode) (n slots : ℕ) → map shared reserved ≡ qs → All (CodeFits qs) code → length code < 2 ^ 32
    → n ≡ sum_by (λ (t : TaskCode). sum_by added_by t.steps) code → HaveSpare n reserved → slots ≡ commands_in code
    → IsBook qs reserved (map begun code) [] slots
begins qs reserved code n slots same fits few count spare room = record {
  explains = record { legal = tt; leaves = λ j. record { queues = sym same j; tasks = map begun (code_back code j) } };
  fits = subst (λ q. All (TaskFits q) (map begun code)) (sym same) (begun_fits qs code fits);
  spare = subst (λ m. HaveSpare m reserved) (count ∙ sym (left_begun added_by code)) spare;
  room = let same : left one_each (map begun code) ≡ slots = left_begun one_each code ∙ all_ones code ∙ sym room in omega (arith, same);
  all = ap commands_in (code_back code) ∙ sym room;
  few = subst (λ m. m < 2 ^ 32) (sym (length-map code begun)) few;
}

-- the same, as the code makes it
pub prepared : (queues opened lent reserved : List AnyQueue) (len : ℕ) (code : List TaskCode) (tasks : List TaskState) (history : List Entry) (n slots : ℕ)
    → opened ≡ queues → lent ≡ queues → length lent ≡ len → length reserved ≡ length lent → map shared reserved ≡ map shared lent → All (CodeFits (map shared queues)) code → length code < 2 ^ 32
    → n ≡ sum_by (λ (t : TaskCode). sum_by added_by t.steps) code → HaveSpare n reserved → slots ≡ commands_in code → tasks ≡ map begun code → history ≡ []
    → IsBook (map shared opened) (take len (reserved ++ drop (length reserved) queues)) tasks history slots
prepared queues opened lent reserved len code tasks history n slots own same as_long kept shares fits few count spare room began none =
    let back = written_back len queues reserved (kept ∙ as_long) (ap length (sym same) ∙ as_long) in
    let whole : IsBook (map shared queues) reserved (map begun code) [] slots = begins (map shared queues) reserved code n slots (shares ∙ ap (map shared) same) fits few count spare room in
    rw (own, began, none, back) whole

pub begun_block : (queues opened : List AnyQueue) (code : List TaskCode) (tasks : List TaskState) (history : List Entry) → opened ≡ queues → tasks ≡ map begun code → history ≡ []
    → block_of opened tasks history ≡ new_block (map shared queues) code
begun_block queues opened code tasks history own began none = λ j. record {
  queues = map shared (own j);
  code = (ap (map code_of) began ∙ code_back code) j;
  history = none j;
}
