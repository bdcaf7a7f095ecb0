use Rattle.std.proofs.Common.{append_assoc}
use Rattle.ob_picture_chart.specs.Svg.{view_box}
use Rattle.ob_picture_chart.proofs.svg.push_view_box.Goals as goal

pub returns : goal.returns
unfolding view_box
returns c =
    rw (c.in_ok-push_str-3.ensures.bytes, c.in_ok-push_number-2.ensures.ok, c.in_ok-push_str-2.ensures.bytes, c.in_ok-push_number.ensures.ok, c.in_ok-push_str.ensures.bytes)
    (simp append_assoc)
