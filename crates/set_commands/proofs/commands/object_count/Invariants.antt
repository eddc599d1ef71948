use Rattle.set_commands.proofs.commands.object_count.Given as goal

abbrev pub ghosts-opened_count : goal.ghosts-opened_count
ghosts-opened_count a = record { name = a.blank.name; parts = a.blank.parts }
