-- What texts of words and lines are made of.
use Rattle.fam_script.proofs.Joined.{joined, nothing_joined, words_text-cons, spaced-append}

pub ruleset texts = (joined, nothing_joined, words_text-cons, spaced-append)
