-- The entry of which a key and an element were lent.
use Rattle.std.proofs.Common.{◌≡◌, ◌∙◌, Option, Some}
use Rattle.ac_model.specs.Rows.{Entry, entry}

pub entry_is : {K V : Type 0} (found : Option (Entry K V)) {met row : Entry K V} {key : K} {element : V} → found ≡ Some row → found ≡ Some met
    → key ≡ met.key → element ≡ met.element → entry key element ≡ row
entry_is {K} {V} found {met} {row} {key} {element} is lent keys elements =
    let same : met ≡ row = cc in
    let parts : entry key element ≡ met = λ i. entry (keys i) (elements i) in
    parts ∙ same
