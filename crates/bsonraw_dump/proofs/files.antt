mod Guessing
