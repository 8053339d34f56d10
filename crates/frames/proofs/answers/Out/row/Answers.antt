use Rattle.frames.proofs.Overwriting.{put-begins, put-next, put-last}
use Rattle.frames.proofs.Lining.{row-parts, head-fits, terms-fit, end-fits}
use Rattle.frames.proofs.answers.Out.row.Goals as goal

pub put-requires : goal.put-requires
put-requires c = head-fits c.args.r _ _ c.args.self.now c.requires

pub terms-requires : goal.terms-requires
terms-requires c = terms-fit c.args.r _ _ c.args.self.now c.requires _ c.put.ensures

pub end-requires : goal.end-requires
end-requires c = end-fits c.args.r _ _ c.args.self.now c.requires _ c.put.ensures _ c.terms.ensures

pub returns : goal.returns
returns c =
    let p = put-next _ _ _ _ _ (put-begins _ _ (row-parts c.args.r _ _ c.from.ensures c.term_number-terms.ensures.0) c.args.self.now) c.requires _ c.put.ensures in
    let q = put-next _ _ _ _ _ p c.requires _ c.terms.ensures in
    put-last _ _ _ _ q c.requires _ c.end.ensures
