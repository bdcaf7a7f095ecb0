-- The listing of the code of a module's text.
use Rattle.std.specs.Prelude.{◌≡◌, ℕ, List, map}
use Rattle.ob_object_compile.specs.Listing.{listing}
use Rattle.ob_code_scheme.specs.Scheme.{code_of}
use Rattle.ob_object_compile.specs.Asked.{by_body}
use Rattle.ob_object_compile.specs.Compilation.{ObjectParts, IsCompilation, default_budget}

-- the bytes are the listing of the code of the text's module, which has an object, if of one process alone
pub record IsListing (text output : List ℕ) : Type 0 where
  pub object : ObjectParts
  pub compiled : IsCompilation (by_body text 1 default_budget) object
  pub printed : output ≡ listing (code_of object.program).instructions (code_of object.program).entries (map (λ p. p.name) object.program.procedures)
