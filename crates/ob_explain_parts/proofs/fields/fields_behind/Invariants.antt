-- What is left of the tokens gives the other fields, and there are not more open records than tokens so far.
use Rattle.std.proofs.Common.{◌≡◌, ◌≤◌, [], drop}
use Rattle.ob_explain_parts.specs.Fields.{fields_behind, open_records}
use Rattle.ob_explain_parts.specs.declared.fields.Listing.TheVariants.{Names}
use Rattle.ob_explain_parts.proofs.fields.fields_behind.Given as goal

abbrev pub invariant-loop-token : goal.invariant-loop-token
invariant-loop-token l =
    record {
      left : fields_behind l.found.items l.listing (drop l.token-index l.behind) ≡ fields_behind [] Names l.behind;
      few : open_records l.listing ≤ l.token-index;
    }
