-- The engine over the tree of each well-formed program is correct, and lawful with every budget as the engine over its code is.
use Rattle.std.proofs.Common.{refl}
use Rattle.std.proofs.Math.Logic.{∥∥₁_map}
use Rattle.ob_code_correct.proofs.Law.{code_correct}
use Rattle.ob_code_correct.specs.Compiled.{parts_of, Fits, HasReserve, IsLawfulBlock, IsEffect}
use Rattle.ob_code_correct.specs.Parts.{HasProgram, IsLawfulFor, IsEffectOf}
use Rattle.ob_code_correct.proofs.CodeLaw as Code
use Rattle.ob_code_correct.proofs.PartsLaw.{parts_lawful}
use Rattle.ob_tree_law.specs.LikeCode.{TreeIsCorrect}
use Rattle.ob_tree_law.proofs.Theorem.{tree_is_correct}
use Rattle.ob_tree_law.specs.TreeLaw.{TreeIsLawful, TreePartsAreLawful, TreeBodiesEnd, TreeScriptsEnd}
use Rattle.ob_tree_law.proofs.TreeLaw.{tree_lawful, tree_ends}

pub tree_correct : TreeIsCorrect
tree_correct = tree_is_correct code_correct

pub tree_is_lawful : TreeIsLawful
tree_is_lawful program budget well =
    tree_lawful program budget (IsLawfulBlock program) (Fits program) (HasReserve (parts_of program budget)) (IsEffect program budget) (Code.code_lawful program budget well)

pub tree_parts_lawful : TreePartsAreLawful
tree_parts_lawful program budget well =
    let parts = parts_of program budget in
    let there : ∥ HasProgram parts ∥₁ = ∥∥₁_map well (λ w. (program, record { well = w; parts_are = refl })) in
    tree_lawful program budget (IsLawfulFor parts) (Fits program) (HasReserve parts) (IsEffectOf parts) (parts_lawful parts there)

pub tree_bodies_end : TreeBodiesEnd
tree_bodies_end program budget well call block lawful fits n few =
    tree_ends program budget n block call (Code.bodies_end program budget well call block lawful fits n few)

pub tree_scripts_end : TreeScriptsEnd
tree_scripts_end program budget well scripts opening fit lawful = record {
  ends = λ id call block is reached.
      tree_ends program budget _ block call ((Code.scripts_end program budget well scripts opening fit lawful).ends id call block is reached);
}
