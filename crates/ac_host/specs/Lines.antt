-- The text of an answer that needs no object.
use Rattle.std.specs.Prelude.{ℕ, codes, Bool, true, false, List, []}
use Rattle.ac_base.specs.declared.cursor.Cursor.TheVariants as cursor
use Rattle.ac_base.specs.declared.value.Value.TheVariants as value
use Rattle.ac_syntax.specs.Canonical.{literal_text}
use Rattle.ac_calls.specs.Answers.{truth_text}
use Rattle.ac_calls.specs.declared.reply.Said.{Said}
use Rattle.ac_calls.specs.declared.reply.Said.TheVariants.{Done, Value, Truth, Place, Listing, Stalled}

-- the answer is an object's listing
abbrev pub is_listing : Said → Bool
is_listing Done = false
is_listing (Value v) = false
is_listing (Truth is_true) = false
is_listing (Place c) = false
is_listing Listing = true
is_listing Stalled = false

-- the answer is a string
abbrev pub is_string : Said → Bool
is_string Done = false
is_string (Value (value.Int n)) = false
is_string (Value (value.Text t)) = true
is_string (Truth is_true) = false
is_string (Place c) = false
is_string Listing = false
is_string Stalled = false

-- a listing isn't told here
abbrev pub shown_text : Said → List ℕ
shown_text Done = codes "ok"
shown_text (Value v) = literal_text v
shown_text (Truth is_true) = truth_text is_true
shown_text (Place cursor.NoElement) = codes "no_element"
shown_text (Place (cursor.At object name)) = codes "cursor"
shown_text Listing = []
shown_text Stalled = codes "stalled"
