use Rattle.std.proofs.Common.{refl}
use Rattle.clearance.proofs.Worked.{ball_figure, block_figure, plane_figure, drum_figure, probed_figure, cut_inside, cut_outside, gap_112, gap_113, value_112, value_113, value_minus_112, value_minus_113}
use Rattle.clearance.proofs.figures.figures.Goals as goal

pub returns : goal.returns
returns c = record {
  ball_figure = ball_figure;
  block_figure = block_figure;
  plane_figure = plane_figure;
  drum_figure = drum_figure;
  probed_figure = probed_figure;
  rounded_0 = refl;
  rounded_2 = refl;
  rounded_3 = refl;
  soft_0 = refl;
  cut_inside = cut_inside;
  cut_outside = cut_outside;
  gap_112 = gap_112;
  gap_113 = gap_113;
  value_112 = value_112;
  value_113 = value_113;
  value_minus_112 = value_minus_112;
  value_minus_113 = value_minus_113;
}
