use Rattle.std.proofs.Common.{refl}
use Rattle.ob_explain_words.specs.Declaring.{const, semicolon, type}
use Rattle.ob_explain_words.proofs.declaring.leads_declaration.Goals as goal

pub returns-in-Const : goal.returns-in-Const
returns-in-Const c = (λ t. rw c.in-Const.is const, λ l. refl)

pub returns-in-Type : goal.returns-in-Type
returns-in-Type c = (λ t. rw c.in-Type.is type, λ l. refl)

pub returns-in-Semicolon : goal.returns-in-Semicolon
returns-in-Semicolon c = (λ t. rw c.in-Semicolon.is semicolon, λ l. refl)
