use Rattle.std.proofs.Common.{◌≡◌, ◌++◌, drop, string_bytes}
use Rattle.ob_checked.specs.Types.{type_in, types_of, fields_by, fields_in}
use Rattle.ob_checked.specs.View.{table_of}
use Rattle.ob_store.specs.View.{values_in}
use Rattle.ob_text_words.specs.Appending.{GoesOn}
use Rattle.ob_text_record.specs.Values.{elements_text, fields_text}
use Rattle.ob_text_record.proofs.printed_values.+writing.Given as goal

-- the text so far, and that of the elements that are left
abbrev pub invariant-push_array-loop-position : goal.invariant-push_array-loop-position
invariant-push_array-loop-position l =
    record {
      so_far :
          string_bytes l.text ++ elements_text l.position (type_in (table_of l.types) l.element) (values_in (drop l.position l.parts))
          ≡ string_bytes l.initial.text ++ elements_text 0 (type_in (table_of l.types) l.element) (values_in l.parts);
      kept : GoesOn (string_bytes l.fn.text) (string_bytes l.text);
    }

-- the text so far, and that of the fields that are left
abbrev pub invariant-push_record-loop-position : goal.invariant-push_record-loop-position
invariant-push_record-loop-position l =
    record {
      so_far :
          string_bytes l.text ++ fields_text l.position (fields_by (types_of (table_of l.types)) (drop l.position (fields_in l.fields))) (values_in (drop l.position l.parts))
          ≡ string_bytes l.initial.text ++ fields_text 0 (fields_by (types_of (table_of l.types)) (fields_in l.fields)) (values_in l.parts);
      kept : GoesOn (string_bytes l.fn.text) (string_bytes l.text);
    }
