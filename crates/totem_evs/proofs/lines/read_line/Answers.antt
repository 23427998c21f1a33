use Rattle.totem_evs.proofs.Common.{◌≢◌, rules, refl, writes_quiet, begins, called, handed, picks, passes_byte, skips, stops}
use Rattle.totem_evs.specs.RunGrammar.{line_at}
use Rattle.totem_evs.proofs.lines.read_line.Goals as goal

pub returns-in-99-clause-read : goal.returns-in-99-clause-read
unfolding line_at
returns-in-99-clause-read g c = handed _ _ _ _ _ _ (picks _ _ _ _ _ _ _ (called _ _ _ _ _ _ _ (begins _ _) c.in_ok-letter.ensures.read) c.in-99.is) c.read_change.ensures.read

pub returns-in-115-clause-read : goal.returns-in-115-clause-read
unfolding line_at
returns-in-115-clause-read g c = handed _ _ _ _ _ _ (picks _ _ _ _ _ _ _ (passes_byte _ _ _ _ _ _ _ _ (called _ _ _ _ _ _ _ (begins _ _) c.in_ok-letter.ensures.read) c.in-115.is refl) c.in-115.is) c.read_send.ensures.read

pub returns-in-100-clause-read : goal.returns-in-100-clause-read
unfolding line_at
returns-in-100-clause-read g c = handed _ _ _ _ _ _ (picks _ _ _ _ _ _ _ (passes_byte _ _ _ _ _ _ _ _ (passes_byte _ _ _ _ _ _ _ _ (called _ _ _ _ _ _ _ (begins _ _) c.in_ok-letter.ensures.read) c.in-100.is refl) c.in-100.is refl) c.in-100.is) c.read_delivery.ensures.read

pub returns-in-102-clause-read : goal.returns-in-102-clause-read
unfolding line_at
returns-in-102-clause-read g c = handed _ _ _ _ _ _ (picks _ _ _ _ _ _ _ (passes_byte _ _ _ _ _ _ _ _ (passes_byte _ _ _ _ _ _ _ _ (passes_byte _ _ _ _ _ _ _ _ (called _ _ _ _ _ _ _ (begins _ _) c.in_ok-letter.ensures.read) c.in-102.is refl) c.in-102.is refl) c.in-102.is refl) c.in-102.is) c.read_failure.ensures.read

pub returns-in-111-clause-read : goal.returns-in-111-clause-read
unfolding line_at
returns-in-111-clause-read g c = handed _ _ _ _ _ _ (picks _ _ _ _ _ _ _ (passes_byte _ _ _ _ _ _ _ _ (passes_byte _ _ _ _ _ _ _ _ (passes_byte _ _ _ _ _ _ _ _ (passes_byte _ _ _ _ _ _ _ _ (called _ _ _ _ _ _ _ (begins _ _) c.in_ok-letter.ensures.read) c.in-111.is refl) c.in-111.is refl) c.in-111.is refl) c.in-111.is refl) c.in-111.is) c.read_open.ensures.read

pub returns-in-113-clause-read : goal.returns-in-113-clause-read
unfolding line_at
returns-in-113-clause-read g c = handed _ _ _ _ _ _ (picks _ _ _ _ _ _ _ (passes_byte _ _ _ _ _ _ _ _ (passes_byte _ _ _ _ _ _ _ _ (passes_byte _ _ _ _ _ _ _ _ (passes_byte _ _ _ _ _ _ _ _ (passes_byte _ _ _ _ _ _ _ _ (called _ _ _ _ _ _ _ (begins _ _) c.in_ok-letter.ensures.read) c.in-113.is refl) c.in-113.is refl) c.in-113.is refl) c.in-113.is refl) c.in-113.is refl) c.in-113.is) c.read_quiet.ensures.read

pub returns-in_default-clause-read : goal.returns-in_default-clause-read
unfolding line_at
returns-in_default-clause-read g c =
    let not-99 : c.in_ok-letter.letter ≢ 99 = search rules in
    let not-115 : c.in_ok-letter.letter ≢ 115 = search rules in
    let not-100 : c.in_ok-letter.letter ≢ 100 = search rules in
    let not-102 : c.in_ok-letter.letter ≢ 102 = search rules in
    let not-111 : c.in_ok-letter.letter ≢ 111 = search rules in
    let not-113 : c.in_ok-letter.letter ≢ 113 = search rules in
    stops _ _ _ _ (skips _ _ _ _ _ _ _ (skips _ _ _ _ _ _ _ (skips _ _ _ _ _ _ _ (skips _ _ _ _ _ _ _ (skips _ _ _ _ _ _ _ (skips _ _ _ _ _ _ _ (called _ _ _ _ _ _ _ (begins _ _) c.in_ok-letter.ensures.read) not-99) not-115) not-100) not-102) not-111) not-113) refl

pub returns-in-99-clause-follows : goal.returns-in-99-clause-follows
returns-in-99-clause-follows g c = c.read_change.ensures.follows (writes_quiet c.args.version)

pub returns-in-115-clause-follows : goal.returns-in-115-clause-follows
returns-in-115-clause-follows g c = c.read_send.ensures.follows (writes_quiet c.args.version)

pub returns-in-100-clause-follows : goal.returns-in-100-clause-follows
returns-in-100-clause-follows g c = c.read_delivery.ensures.follows (writes_quiet c.args.version)

pub returns-in-102-clause-follows : goal.returns-in-102-clause-follows
returns-in-102-clause-follows g c = c.read_failure.ensures.follows (writes_quiet c.args.version)

pub returns-in-111-clause-follows : goal.returns-in-111-clause-follows
returns-in-111-clause-follows g c = c.read_open.ensures.follows (writes_quiet c.args.version)

pub returns-in-113-clause-follows : goal.returns-in-113-clause-follows
returns-in-113-clause-follows g c = c.read_quiet.ensures.follows
