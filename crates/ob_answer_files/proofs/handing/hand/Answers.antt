use Rattle.std.proofs.Common.{◌≡◌, length, refl, rules, string_bytes, subst}
use Rattle.ob_answer_files.specs.Handed.{IsFilled, handed, lacking, said}
use Rattle.ob_answer_files.proofs.handing.hand.Goals as goal

pub returns-in_default : goal.returns-in_default
returns-in_default c =
    rw c.in_default.is (record {
      status_is = c.hand_none.ensures.status;
      output_is = c.hand_none.ensures.output;
      len_is = c.hand_none.ensures.len;
      unchanged = refl;
    })

pub returns-in-Ok-push_str : goal.returns-in-Ok-push_str
returns-in-Ok-push_str c =
    let text : c.as_bytes.result.now ≡ said c.in-Ok.answer = search rules in
    let status : c.from.result ≡ c.in-Ok.answer.status = search rules in
    let output : c.len-out.result ≡ length (string_bytes c.in-Ok.answer.out) = search rules in
    let filled = subst (λ t. IsFilled t c.fill.result c.args.room.now c.fill.new.room) text c.fill.ensures in
    rw c.in-Ok.is (handed c.in-Ok.answer refl (record { status_is = status; output_is = output; filled = filled }))

pub returns : goal.returns
returns c =
    rw c.in-Ok.is (lacking (record {
      status_is = c.hand_none-in-Err.ensures.status;
      output_is = c.hand_none-in-Err.ensures.output;
      len_is = c.hand_none-in-Err.ensures.len;
      unchanged = refl;
    }))
