use Rattle.std.proofs.Common.{rules, ◌≡◌, ◌<◌, ◌+◌, ◌||◌, List, true, false, length, is_some, Ok, sym, ap, subst, ◌∙◌, arith}
use Rattle.std.specs.Str.{bytes_eq}
use Rattle.ac_calls.specs.declared.plains.Plain.{Plain}
use Rattle.ac_snapshot.specs.Keys.{has_text, fits_among}
use Rattle.ac_snapshot.specs.StateReading.{IsReading}
use Rattle.ac_snapshot.specs.EntryReaders.{name_in}
use Rattle.ac_snapshot.proofs.Begun.{begun_more, begun_unread, begun_unfit, begun_whole, nothing, shorter}
use Rattle.ac_snapshot.proofs.state_reader.read_state.Goals as goal

pub returns-in_default-clause-refused : goal.returns-in_default-clause-refused
returns-in_default-clause-refused c line e =
    let here = c.loop-left in
    let same : c.len.result + 1 ≡ line = cc e in
    let len : c.len.result ≡ length here.entries.items = search rules in
    let some : 0 < length here.left.now = grind (arith, c.is_empty.ensures, c.loop-left-test.true) in
    begun_unread c.args.bytes.now here.entries.items here.names.keys here.room here.left.now line here.invariant (λ none. omega (arith, some, ap length none))
    (rw c.in_default.is at c.in_ok-entry.ensures) (sym same ∙ ap (λ n. n + 1) len)

pub returns-in_default-2-clause-refused : goal.returns-in_default-2-clause-refused
returns-in_default-2-clause-refused c line e =
    let here = c.loop-left in
    let same : c.len.result + 1 ≡ line = cc e in
    let len : c.len.result ≡ length here.entries.items = search rules in
    let some : 0 < length here.left.now = grind (arith, c.is_empty.ensures, c.loop-left-test.true) in
    let fits : false ≡ fits_among here.names.keys here.room (name_in here.left.now) c.in-Some.entry = sym (ap is_some c.in_default-2.is) ∙ c.in_ok-all.ensures.fits ∙ ap (λ n. fits_among here.names.keys here.room n c.in-Some.entry) c.name_in.ensures in
    begun_unfit c.args.bytes.now here.entries.items here.names.keys here.room here.left.now c.in-Some.entry c.in-Some.rest.now line here.invariant
    (λ none. omega (arith, some, ap length none)) (rw c.in-Some.is at c.in_ok-entry.ensures) fits (sym same ∙ ap (λ n. n + 1) len)

pub loop-left-smaller : goal.loop-left-smaller
loop-left-smaller c =
    let here = c.loop-left in
    let fits : true ≡ fits_among here.names.keys here.room (name_in here.left.now) c.in-Some.entry = sym (ap is_some c.in-Some-2.is) ∙ c.in_ok-all.ensures.fits ∙ ap (λ n. fits_among here.names.keys here.room n c.in-Some.entry) c.name_in.ensures in
    shorter c.args.bytes.now here.entries.items here.names.keys here.room here.left.now c.in-Some.entry c.in-Some.rest.now here.invariant (rw c.in-Some.is at c.in_ok-entry.ensures) fits

pub loop-left-preserved : goal.loop-left-preserved
loop-left-preserved c =
    let here = c.loop-left in
    let fits : true ≡ fits_among here.names.keys here.room (name_in here.left.now) c.in-Some.entry = sym (ap is_some c.in-Some-2.is) ∙ c.in_ok-all.ensures.fits ∙ ap (λ n. fits_among here.names.keys here.room n c.in-Some.entry) c.name_in.ensures in
    begun_more c.args.bytes.now here.entries.items here.names.keys here.room here.left.now c.in-Some.entry c.in-Some.rest.now c.in-Some-2.all c.fitted.new.names.keys
    c.keep.new.entries.items here.invariant (rw c.in-Some.is at c.in_ok-entry.ensures) fits (rw c.in-Some-2.is at c.in_ok-all.ensures.room)
    (λ own. c.in_ok-all.ensures.names (ap is_some c.in-Some-2.is) own ∙ ap (λ n. bytes_eq own n || has_text here.names.keys own) c.name_in.ensures) c.in_ok-keep.ensures

pub returns-clause-read : goal.returns-clause-read
returns-clause-read c =
    let here = c.loop-left in
    let none : length here.left.now ≡ 0 = grind (arith, c.is_empty.ensures, c.loop-left-test.false) in
    subst (λ (s : List Plain). IsReading c.args.bytes.now (Ok s)) (sym c.from_vec.ensures)
    (begun_whole c.args.bytes.now here.entries.items here.names.keys here.room here.left.now here.invariant (nothing here.left.now none))
