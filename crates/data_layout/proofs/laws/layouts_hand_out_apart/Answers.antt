use Rattle.data_layout.proofs.LayoutLaws.{hands-out-apart}
use Rattle.data_layout.proofs.laws.layouts_hand_out_apart.Goals as goal

pub returns : goal.returns
returns c = hands-out-apart
