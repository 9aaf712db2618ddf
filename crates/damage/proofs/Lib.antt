mod Flipped
