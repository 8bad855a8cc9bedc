-- The calls by key of sets of texts with keys, on objects of a script.
use Rattle.std.specs.Prelude.{ℕ}
use Rattle.ac_base.specs.Key.{key_of_text}
use Rattle.ac_model.specs.Objects.{Object}
use Rattle.ac_model.specs.Keyed.{Order}
use Rattle.ac_model.specs.KeyedSets as by_key
use Rattle.ac_syntax.specs.declared.operation.Operation.{Operation}
use Rattle.ac_syntax.specs.declared.operation.Operation.TheVariants as operation
use Rattle.ac_syntax.specs.declared.operation.KeyedCall.{KeyedCall}
use Rattle.ac_syntax.specs.declared.operation.KeyedCall.TheVariants as keyed_call
use Rattle.ac_calls.specs.Elements.{Text, text_in, texts, keyed_texts}
use Rattle.ac_calls.specs.Answers.{answers_ok, answers_truth, answers_place}
use Rattle.ac_calls.specs.KeyedReplies.{KeyedKind, of_hashed, order_by}
use Rattle.ac_calls.specs.Replies.{Arguments, Source, Reply, changes_ok, looks, tells, value_answer, as_value}
use Rattle.ac_calls.specs.SetReplies.{set_reply}

-- `key` is an element's key, `keys` says how keys are told apart and ordered
module _ (key : Text → Text) (keys : Order Text) (o : Object ℕ Text) (args : Arguments) where
  abbrev pub key_reply : KeyedCall → Reply (Object ℕ Text)
  key_reply keyed_call.Key = looks o value_answer (as_value texts (by_key.key_call key o args.first.cursor))
  key_reply keyed_call.KeyElement = looks o value_answer (as_value texts (by_key.key_element_call key keys o (text_in args.first.value)))
  key_reply keyed_call.KeyFind = tells o (answers_place (by_key.key_find_call key keys o (text_in args.first.value)))
  key_reply keyed_call.KeyContains = tells o (answers_truth (by_key.key_contains_call key keys o (text_in args.first.value)))
  key_reply keyed_call.KeyExclude = changes_ok (by_key.key_exclude_call key keys o (text_in args.first.value))
  key_reply keyed_call.KeyDelete = changes_ok (by_key.key_delete_call key keys o (text_in args.first.value))
  key_reply keyed_call.KeyReplace =
      changes_ok (by_key.key_replace_call key keys o (text_in args.first.value) (text_in args.second.value))
  key_reply keyed_call.KeyFloor = tells o (answers_place (by_key.key_floor_call key keys o (text_in args.first.value)))
  key_reply keyed_call.KeyCeiling = tells o (answers_place (by_key.key_ceiling_call key keys o (text_in args.first.value)))

  -- Floor and Ceiling of a key are calls of ordered ones alone
  abbrev pub key_reply_by : KeyedKind → KeyedCall → Reply (Object ℕ Text)
  key_reply_by of_hashed keyed_call.KeyFloor = tells o answers_ok
  key_reply_by of_hashed keyed_call.KeyCeiling = tells o answers_ok
  key_reply_by which c = key_reply c

module _ (o : Object ℕ Text) (source : Source (Object ℕ Text)) (args : Arguments) where
  abbrev pub keyed_set_reply : KeyedKind → Operation → Reply (Object ℕ Text)
  keyed_set_reply which (operation.Keyed c) = key_reply_by key_of_text (order_by texts which) o args which c
  keyed_set_reply which operation = set_reply keyed_texts o source args which operation
