use Rattle.mit_keyed.proofs.Indexing.{index_more, index_none}
use Rattle.mit_keyed.proofs.Matching.{join_whole}
use Rattle.mit_keyed.proofs.laws.index_law.Goals as goal

pub returns : goal.returns
returns c = record {
  none = index_none;
  more = index_more;
  whole = join_whole c.bags_are_sorted_lists.ensures.sorted c.bags_are_sorted_lists.ensures.parts;
}
