mod Retelling
