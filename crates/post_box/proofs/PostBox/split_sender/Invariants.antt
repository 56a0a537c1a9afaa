use Rattle.post_box.proofs.PostBox.split_sender.Given as goal

-- the number and the budget that the caller named
abbrev pub ghosts-cut : goal.ghosts-cut
ghosts-cut g a = record { number = a.number; amount = a.budget }
