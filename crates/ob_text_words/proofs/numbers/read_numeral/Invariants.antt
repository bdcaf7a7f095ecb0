-- The value that the digits so far spell.
use Rattle.std.proofs.Common.{◌≡◌, true, take}
use Rattle.std.specs.Char.{is_ascii_digit}
use Rattle.std.specs.List.{list_all}
use Rattle.ob_scan.specs.Spelling.{number_value}
use Rattle.ob_text_words.proofs.numbers.read_numeral.Given as goal

abbrev pub invariant-loop-byte : goal.invariant-loop-byte
invariant-loop-byte l =
    record {
      value : l.value ≡ number_value (take l.byte-index l.word);
      digits : list_all is_ascii_digit (take l.byte-index l.word) ≡ true;
    }
