mod Plays
mod Summing
mod Telling
