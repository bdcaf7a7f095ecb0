mod Legality
mod Placing
mod Replaying
mod Rounds
