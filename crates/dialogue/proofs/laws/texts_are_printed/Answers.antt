use Rattle.dialogue.proofs.Printing.{greeting-printed, prompt-printed, reply-printed}
use Rattle.dialogue.proofs.laws.texts_are_printed.Goals as goal

pub returns-clause-greeting : goal.returns-clause-greeting
returns-clause-greeting c p = greeting-printed p

pub returns-clause-prompt : goal.returns-clause-prompt
returns-clause-prompt c cursor deliveries = prompt-printed cursor deliveries

pub returns-clause-reply : goal.returns-clause-reply
returns-clause-reply c texts within p beside table reply = reply-printed texts within p beside table reply
