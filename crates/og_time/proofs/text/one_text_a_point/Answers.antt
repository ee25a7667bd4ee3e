use Rattle.og_time.proofs.PointTexts.{one_point}
use Rattle.og_time.proofs.PointWriting.{point_text-is, IsPointText-point_text}
use Rattle.og_time.proofs.text.one_text_a_point.Goals as goal

pub returns-clause-one_text : goal.returns-clause-one_text
returns-clause-one_text c = point_text-is

pub returns-clause-one_point : goal.returns-clause-one_point
returns-clause-one_point c = one_point

pub returns-clause-written : goal.returns-clause-written
returns-clause-written c = IsPointText-point_text
