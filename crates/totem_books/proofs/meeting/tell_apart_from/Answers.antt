use Rattle.totem_books.proofs.Common.{◌∙◌, arith, ShareNoPlace}
use Rattle.totem_books.proofs.Entering.{written_back, apart_more, all_taken}
use Rattle.totem_books.proofs.meeting.tell_apart_from.Goals as goal

pub loop-i-preserved : goal.loop-i-preserved
loop-i-preserved g c =
    let inv = c.loop-i.invariant in let told = c.tell_apart.ensures in let others = c.args.others.now in let at = c.index-others-i in
    record {
      book = told.book ∙ inv.book;
      one = told.other ∙ inv.one;
      others = written_back c.loop-i.others others c.loop-i.i at.result c.tell_apart.new.one inv.others told.one;
      apart = apart_more c.loop-i.others others c.loop-i.i at.result c.loop-i.one c.args.one.now inv.others (omega (arith, c.loop-i-test.true, c.loop-i.auto.i-end)) inv.one told.apart inv.apart;
    }

pub returns-clause-apart : goal.returns-clause-apart
returns-clause-apart g c =
    all_taken (λ s. ShareNoPlace s.stubs c.args.one.now.stubs) c.args.others.now c.loop-i.i (omega (arith, c.loop-i-test.false, c.loop-i.auto.i-end)) c.loop-i.invariant.apart
