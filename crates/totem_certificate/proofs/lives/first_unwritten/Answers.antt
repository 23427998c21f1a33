use Rattle.totem_certificate.proofs.Common.{Some, sym, ap, ◌∙◌, slice_get-get_or, Numbering, HasFirstLife}
use Rattle.totem_names.proofs.Each.{each_more, each_whole}
use Rattle.totem_certificate.proofs.WrittenLives.{all_first}
use Rattle.totem_certificate.proofs.lives.first_unwritten.Goals as goal

pub returns-then-not-has_first_life-clause-some : goal.returns-then-not-has_first_life-clause-some
returns-then-not-has_first_life-clause-some c =
    record {
      lives = sym c.lives.ensures ∙ c.if-lives.false;
      line = c.index-lines-at.result;
      there = slice_get-get_or c.args.lines.now c.loop-at.at c.index-lines-at.result c.loop-at-test.true ∙ ap (λ (x : Numbering). Some x) (sym c.index-lines-at.is);
      other = λ h. let t = c.has_first_life.ensures.1 h in let f = c.if-not-has_first_life.true in cc;
      before = c.loop-at.invariant;
    }

pub loop-at-preserved : goal.loop-at-preserved
loop-at-preserved c = each_more HasFirstLife _ _ _ c.loop-at-test.true c.index-lines-at.is (c.has_first_life.ensures.0 c.if-not-has_first_life.false) c.loop-at.invariant

pub returns-clause-none : goal.returns-clause-none
returns-clause-none c = all_first c.args.version _ (each_whole HasFirstLife _ _ c.loop-at-test.false c.loop-at.invariant) c.requires
