-- How what the code's call says is the meaning's answer.
use Rattle.std.specs.Prelude.{◌≡◌, ℕ, Some}
use Rattle.ac_model.specs.Cursors.{plain_mark}
use Rattle.ac_calls.specs.Answers as meant
use Rattle.ac_calls.specs.Holdings.{Held, listing_of}
use Rattle.ac_meaning.specs.Environment.{State, object_at}
use Rattle.ac_calls.specs.declared.reply.Said.{Said}
use Rattle.ac_calls.specs.declared.reply.Said.TheVariants.{Done, Value, Truth, Place, Listing, Stalled}

-- in this environment, where the object of the call has this place
abbrev pub Shows : State → ℕ → Said → meant.Answer → Type 0
Shows e object Done answer = answer ≡ meant.answers_ok
Shows e object (Value v) answer = answer ≡ meant.answers_value v
Shows e object (Truth is_true) answer = answer ≡ meant.answers_truth is_true
Shows e object (Place c) answer = answer ≡ meant.answers_place (plain_mark c)
Shows e object Listing answer = (h : Held) × (object_at e object ≡ Some h) × (answer ≡ meant.answers_list (listing_of h))
Shows e object Stalled answer = answer ≡ meant.answers_stalled
