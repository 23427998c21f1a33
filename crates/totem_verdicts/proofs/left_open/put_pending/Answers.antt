use Rattle.totem_evs.proofs.Common.{◌≡◌, ℕ, ◌+◌, ◌-◌, ◌≤◌, length, List, [], ◌∷◌, ◌++◌, take, drop, codes, ap, ◌∙◌, append_assoc, arith, message_text, process_text}
use Rattle.std.proofs.lemmas.List.{take_all, take-append-drop, length-drop, length-take-le, length-append}
use Rattle.std.proofs.lemmas.Slice.{take-put_mid, drop-put_mid}
use Rattle.std.proofs.lemmas.Grind.{common_steps}
use Rattle.totem_verdicts.specs.Report.{pending_line}
use Rattle.totem_verdicts.proofs.left_open.put_pending.Goals as goal

-- a text from the index at which a word was written before the rest
worded : (text front word rest : List ℕ) (start end n : ℕ) → take end text ≡ front ++ word → drop end text ≡ rest → length front ≡ start → length word + length rest ≤ n → take n (drop start text) ≡ word ++ rest
worded text front word rest start end n before after long few =
    let from : drop start text ≡ word ++ rest = grind (arith, common_steps, before, after, long, take-append-drop end text, append_assoc front word rest) in
    ap (take n) from ∙ take_all n (word ++ rest) (omega (arith, few, length-append word rest))

-- the parts of a line
parts : (named message : List ℕ) → codes "pending" ++ 32 ∷ (named ++ 32 ∷ (message ++ 10 ∷ [])) ≡ (codes "pending " ++ named ++ codes " " ++ message) ++ codes "\n"
parts named message = grind (arith, common_steps, append_assoc)

pub returns : goal.returns
unfolding pending_line
returns g c =
    let named = process_text c.args.version c.args.pending.now.proc in
    let text = c.write_process-process.new.text in
    let end = c.write_process-process.result in
    let start = end - 7 in
    let long : length text ≡ 63 = c.write_process-process.ensures.length ∙ c.write_message-message.ensures.length in
    let far : 7 ≤ end = omega (arith, c.write_process-process.ensures.within, c.write_message-message.ensures.within) in
    let near : end ≤ 63 = omega (arith, c.write_process-process.ensures.within, c.write_message-message.ensures.within) in
    let word : length c.copy_from_slice.new.self ≡ 7 = ap length c.copy_from_slice.ensures.after in
    let before = take-put_mid start (end - start) text c.copy_from_slice.new.self end (omega (arith, far, word)) (omega (arith, near, long)) in
    let after = drop-put_mid start (end - start) text c.copy_from_slice.new.self end (omega (arith, far)) (omega (arith, near, long)) (omega (arith, far, word)) in
    let whole = worded _ (take start text) c.copy_from_slice.new.self (drop end text) start end (63 - start) before after (length-take-le start text (omega (arith, near, long))) (omega (arith, far, near, long, word, length-drop end text)) in
    let line = whole ∙ ap (λ (k : List ℕ). k ++ drop end text) c.copy_from_slice.ensures.after
    ∙ ap (λ (k : List ℕ). codes "pending" ++ k) (c.write_process-process.ensures.written ∙ ap (λ (k : List ℕ). 32 ∷ (named ++ k)) c.write_message-message.ensures.written) in
    rw (parts named (message_text c.args.pending.now.msg)) at (rw line at c.put.ensures)
