-- The outermost names as contracts see them.
use Rattle.std.specs.Prelude.{true, List, map}
use Rattle.ac_rules.specs.Scopes as scopes
use Rattle.ac_aggregate.specs.declared.scope.Meaning.{Meaning}
use Rattle.ac_aggregate.specs.declared.scope.Meaning.TheVariants as meaning
use Rattle.ac_aggregate.specs.declared.scope.Entry.{Entry}

abbrev pub meaning_view : Meaning → scopes.Meaning
meaning_view (meaning.Type def) = scopes.a_type def
meaning_view (meaning.Object of def) = scopes.an_object of.now def
meaning_view (meaning.Cursor of) = scopes.a_cursor of.now true
meaning_view (meaning.Variable kind) = scopes.a_value kind true

abbrev pub entry_view : Entry → scopes.Entry
entry_view e = scopes.entry e.name.now (meaning_view e.meaning)

abbrev pub entries_view : List Entry → scopes.Scope
entries_view names = map entry_view names
