use Rattle.totem_outcome.proofs.Certain.{all_rise, one_falls, sends_below, send_late, classes_one, class_split, others_apart, others_share, is_certified}
use Rattle.totem_plain.proofs.plainly.lines_certify.Goals as goal

pub returns-then-not-all_rise : goal.returns-then-not-all_rise
returns-then-not-all_rise c =
    let matches = c.if-not-matches_logs.ensures in
    (matches, one_falls _ _ c.requires.run.rising matches c.if-not-all_rise.ensures)

pub returns-then-not-each_pair : goal.returns-then-not-each_pair
returns-then-not-each_pair c =
    let matches = c.if-not-matches_logs.ensures in
    (matches, all_rise _ _ c.requires.run.rising matches c.if-not-all_rise.ensures, send_late _ _ c.if-not-each_pair.ensures)

pub returns-then-not-each_pair-2 : goal.returns-then-not-each_pair-2
returns-then-not-each_pair-2 c =
    let rising = c.requires.run.rising in
    let matches = c.if-not-matches_logs.ensures in
    (matches, all_rise _ _ rising matches c.if-not-all_rise.ensures, sends_below _ _ rising matches c.if-not-each_pair.ensures, class_split _ _ c.if-not-each_pair-2.ensures)

pub returns-then-not-each_pair-3 : goal.returns-then-not-each_pair-3
returns-then-not-each_pair-3 c =
    let rising = c.requires.run.rising in
    let matches = c.if-not-matches_logs.ensures in (
      matches,
      all_rise _ _ rising matches c.if-not-all_rise.ensures,
      sends_below _ _ rising matches c.if-not-each_pair.ensures,
      classes_one _ _ rising matches c.if-not-each_pair-2.ensures,
      others_share _ _ c.if-not-each_pair-3.ensures,
    )

pub returns-else-not-each_pair-3 : goal.returns-else-not-each_pair-3
returns-else-not-each_pair-3 c =
    let rising = c.requires.run.rising in
    let matches = c.if-not-matches_logs.ensures in
    is_certified _ _ c.requires.certificate matches (all_rise _ _ rising matches c.if-not-all_rise.ensures) (sends_below _ _ rising matches c.if-not-each_pair.ensures) (classes_one _ _ rising matches c.if-not-each_pair-2.ensures)
    (others_apart _ _ rising matches c.if-not-each_pair-3.ensures)
